-- Members and ports, one after the other.
use Rattle.std.proofs.Common.{◌≡◌, ℕ, ◌+◌, ◌<◌, List, [], ◌∷◌, ◌++◌, length, take, get_or, String, Result, Ok, Err, inr, refl, sym, ap, ◌∙◌}
use Rattle.std.proofs.lemmas.Grind.{flat_map-append}
use Rattle.std.proofs.lemmas.List.{append-nil, append_assoc, take_more}
use Rattle.std.specs.Prelude.{OnOk, codes, string_bytes}
use Rattle.std.specs.declared.alloc.AllocError.{AllocError}
use Rattle.std.specs.declared.alloc.Global.{Global}
use Rattle.vast_session.specs.declared.questions.answered.PortValue.{PortValue}
use Rattle.vast_session.specs.declared.session.Session.{Session}
use Rattle.vast_calls.specs.Json.{AddsJsonText, json_text}
use Rattle.vast_session.specs.Replies.{IsAnswerText, port_object}
use Rattle.vast_session.specs.Internal.Replies.{AddsHelper, more_ports}

-- What a helper answered was appended, as a text of JSON.
pub helper_told :
    (session : Session) (number : ℕ) (old new : List ℕ) (answer : String Global) (done : Result (Unit {0}) AllocError) → IsAnswerText session number answer →
    OnOk done (AddsJsonText old new (string_bytes answer)) → OnOk done (AddsHelper session number old new)
helper_told session number old new answer (Ok tt) is adds = (json_text (string_bytes answer), inr (answer, is, refl), adds.0)
helper_told session number old new answer (Err refused) is adds = tt

-- Two members were appended, one after the other.
pub joined : (old one two first second : List ℕ) → one ≡ old ++ first → two ≡ one ++ second → two ≡ old ++ (first ++ second)
joined old one two first second e f = f ∙ ap (λ (xs : List ℕ). xs ++ second) e ∙ append_assoc old first second

-- One port more was appended.
pub more_port :
    (ports : List PortValue) (old text comma new : List ℕ) (place : ℕ) (port : PortValue) → place < length ports → port ≡ get_or ports place port → text ≡ old ++ more_ports (take place ports) →
    comma ≡ text ++ codes "," → new ≡ comma ++ port_object port → new ≡ old ++ more_ports (take (place + 1) ports)
more_port ports old text comma new place port b i o c n =
    let object = port_object port in
    let all = more_ports (take place ports) in
    let more : more_ports (take (place + 1) ports) ≡ all ++ (codes "," ++ object) =
    ap more_ports (take_more ports place port b ∙ ap (λ (p : PortValue). take place ports ++ p ∷ []) (sym i))
    ∙ flat_map-append (λ (p : PortValue). codes "," ++ port_object p) (take place ports) (port ∷ [])
    ∙ ap (λ (xs : List ℕ). all ++ xs) (append-nil (codes "," ++ object)) in
    n
    ∙ ap (λ (xs : List ℕ). xs ++ object) (c ∙ ap (λ (xs : List ℕ). xs ++ codes ",") o)
    ∙ append_assoc (old ++ all) (codes ",") object
    ∙ append_assoc old all (codes "," ++ object)
    ∙ ap (λ (xs : List ℕ). old ++ xs) (sym more)

pub ruleset ports = (more_port)
