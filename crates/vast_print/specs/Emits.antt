-- What a call returns that prints a page or a text.
use Rattle.std.specs.Prelude.{◌≡◌, ℕ, List, Option, Some, None, Result, Ok, Err, String, string_bytes}
use Rattle.std.specs.declared.alloc.Global.{Global}
use Rattle.vast_literal.specs.declared.error.VastFault.{VastFault}
use Rattle.vast_literal.specs.declared.error.VastFault.TheVariants.{Refused as RefusedBy, Memory as NoMemory}
use Rattle.vast_print.specs.declared.refusal.Refusal.{Refusal}
use Rattle.vast_print.specs.Printed.{Printed, refusal_text}
use Rattle.vast_print.specs.Page.{Page, print}

-- the words of a refusal, where there is one
abbrev pub words_of : Option Refusal → Option (List ℕ)
words_of None = None
words_of (Some r) = Some (refusal_text r)

-- the answer is this text where nothing refuses it, or the first refusal with its words, or memory was refused
abbrev pub Answers : List ℕ → Option Refusal → Result (String Global) VastFault → Type 0
Answers text fault (Ok s) = (fault ≡ None) × (string_bytes s ≡ text)
Answers text fault (Err (RefusedBy e)) = words_of fault ≡ Some (string_bytes e.0)
Answers text fault (Err (NoMemory e)) = Unit {0}

-- the page as it is printed, or its first refusal
abbrev pub Emits : Page → Result (String Global) VastFault → Type 0
Emits p r = Answers (print p) p.fault r

-- the text as it stands, or its first refusal
abbrev pub EmitsText : Printed → Result (String Global) VastFault → Type 0
EmitsText p r = Answers p.text p.fault r
