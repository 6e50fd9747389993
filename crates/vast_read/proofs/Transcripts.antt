-- Transcripts: how they grow, and that what is told is read off them.
use Rattle.std.proofs.Common.{◌≡◌, ◌≢◌, ◌∙◌, ℕ, Bool, true, false, List, [], ◌∷◌, ◌++◌, Option, Some, None, option_map, MatchBool, Result, IfOk, map, refl, sym, ap, subst, append_assoc, append-nil}
use Rattle.std.proofs.lemmas.List.{map-append}
use Rattle.std.specs.List.{flat_map}
use Rattle.vast_literal.specs.NormalExpr.{NormalExpr, NormalExprs, Name, Literal, Text, MacroAlone, Unary, Binary, Ternary, Index, Slice, PartSelect, MemberOf, Concat, Pattern, Replicated, Call, MacroCall, Cast, PackageCast, WordCast, NoNormals, MoreNormals}
use Rattle.vast_literal.specs.Tokens.{Token}
use Rattle.vast_literal.specs.declared.token.Sign.TheVariants.{Less}
use Rattle.vast_expressions.specs.Events as expression
use Rattle.vast_expressions.specs.Events.{NameE, LiteralE, TextE, MacroE, WordE, PartSelectE, MemberOfE, Made, trace, traces, mores}
use Rattle.vast_expressions.specs.declared.event.Told.TheVariants.{Unary as UnaryT, Binary as BinaryT, Ternary as TernaryT, Index as IndexT, Slice as SliceT, NoneYet as NoneT, One as OneT, Push as PushT, Concat as ConcatT, Pattern as PatternT, Replicated as ReplicatedT, Call as CallT, MacroCall as MacroCallT, Cast as CastT, PackageCast as PackageCastT, WordCast as WordCastT}
use Rattle.vast_expressions.specs.Hearing.{HearsAll}
use Rattle.vast_expressions.specs.Phrases.{IsRead}
use Rattle.vast_expressions.specs.Reading.{Reads as IsHeard}
use Rattle.vast_expressions.specs.Internal.Values.{Value, Tree, Grown, grown}
use Rattle.vast_expressions.proofs.Heard.{Hears, heard_one}
use Rattle.vast_rows.specs.Events.{Event, Makes, Reads, Names}
use Rattle.vast_rows.specs.Phrases.{IsExpression, IsLoop, IsPath}
use Rattle.vast_read.specs.Internal.Comparison.{Tells as IsTold}
use Rattle.vast_read.specs.Internal.Readings.{less_than}
use Rattle.vast_read.specs.Internal.Transcripts.{Entry, Does, Tells, Says, Written, nothing_written, joined, written, note_of, texts_of, entry_of, entries_of, entries, Follows, IsOf, between, piece_view}
use Rattle.vast_read.specs.Internal.TranscriptLaws.{joined_assoc, joined_nothing, joined_cancel, written_both}
use Rattle.vast_read.specs.Internal.Transcribed.{entries_by, before, made_by, told_by, told_in, tree_of, first_expression, IsWhole}
use Rattle.vast_read.specs.Internal.Values.{made_or}
use Rattle.vast_read.specs.declared.transcript.note.Note.{Note}
use Rattle.vast_read.specs.declared.transcript.note.Note.TheVariants as note
use Rattle.vast_read.specs.declared.transcript.piece.Piece.{Piece}
use Rattle.vast_read.specs.declared.transcript.note.Role.TheVariants as role

-- All was told, and nothing else.
pub all_followed : (u told : Written) (o : Option Written) → Follows (Some u) told o → o ≡ Some nothing_written → u ≡ told
all_followed u told None f e = absurd (cc e)
all_followed u told (Some w) f e = let n : w ≡ nothing_written = cc e in f ∙ (ap (joined told) n ∙ joined_nothing told)

pub not_followed : (u told : Written) (o : Option Written) → Follows (Some u) told o → o ≢ Some nothing_written → u ≢ told
not_followed u told None f n e = f nothing_written (e ∙ sym (joined_nothing told))
not_followed u told (Some w) f n e = n (ap (λ v. Some v) (joined_cancel told w nothing_written (sym f ∙ (e ∙ sym (joined_nothing told)))))

-- So it is told where a text told this.
pub told_over : (u w told : Written) (o : Option Written) (b : Bool) → w ≡ u → Follows (Some w) told o → MatchBool b (o ≡ Some nothing_written) (o ≢ Some nothing_written) → IsTold b u told
told_over u w told o true e f m = sym e ∙ all_followed w told o f m
told_over u w told o false e f m = λ h. not_followed w told o f m (e ∙ h)

-- How phrases are written, and heard.

pub expression_written : (x : NormalExpr) (u : Written) → IsOf x u → u ≡ written (entries (Reads (IsExpression x) ∷ []))
expression_written x u h = h ∙ sym (ap written (append-nil (entries_of x)))

loop_written : (i : List ℕ) (x e : NormalExpr) (u v : Written) → IsOf x u → IsOf e v → written (entries (Reads (IsLoop i x e) ∷ [])) ≡ joined u (joined v (written (Says role.Variable i ∷ [])))
loop_written i x e u v h k =
    let end : List Entry = Says role.Variable i ∷ [] in
    ap written (append-nil (entries_of x ++ (entries_of e ++ end)))
    ∙ (written_both (entries_of x) (entries_of e ++ end)
    ∙ (ap (joined (written (entries_of x))) (written_both (entries_of e) end)
    ∙ (ap (λ w. joined w (joined (written (entries_of e)) (written end))) (sym h)
    ∙ ap (λ w. joined u (joined w (written end))) (sym k))))

pub header_written : (i : List ℕ) (x e : NormalExpr) (u v told whole : Written) → IsOf x u → IsOf e v → told ≡ joined u v → whole ≡ joined told (written (Says role.Variable i ∷ [])) → whole ≡ written (entries (Reads (IsLoop i x e) ∷ []))
header_written i x e u v told whole h k a b =
    b ∙ (ap (λ w. joined w (written (Says role.Variable i ∷ []))) a ∙ (joined_assoc u v (written (Says role.Variable i ∷ [])) ∙ sym (loop_written i x e u v h k)))

pub heard_as : {S T E : Type 0} (hears : S → Written → S → Type 0) (r : Result T E) (u v : Written) (s t : S) → u ≡ v → IfOk r (λ _. hears s u t) → IfOk r (λ _. hears s v t)
heard_as hears r u v s t e h = subst (λ w. IfOk r (λ _. hears s w t)) e h

-- What is told is read off.

read_entries : (es : List Entry) → entries_by (map note_of es) (flat_map texts_of es) ≡ es
read_entries [] = refl
read_entries (Does a ∷ es) = ap (λ v. Does a ∷ v) (read_entries es)
read_entries (Tells t ∷ es) = ap (λ v. Tells t ∷ v) (read_entries es)
read_entries (Says r w ∷ es) = ap (λ v. Says r w ∷ v) (read_entries es)

grow : List expression.Event → List Value → List Value
grow [] vs = vs
grow (e ∷ es) vs = grow es (made_by e vs)

made_grown : (o : Option (List Value)) (vs : List Value) → Grown o (made_or o vs)
made_grown None vs = tt
made_grown (Some ws) vs = refl

heard_grow : (es : List expression.Event) (vs : List Value) → HearsAll (Hears (λ ws. ws)) vs es (grow es vs)
unfolding grow
heard_grow [] vs = refl
heard_grow (e ∷ es) vs = (made_by e vs, made_grown (grown e vs) vs, heard_grow es (made_by e vs))

grown_tree : (x : NormalExpr) (vs : List Value) → grow (trace x []) vs ≡ (Tree x ∷ vs)
grown_tree x vs = heard_one (λ ws. ws) x vs (grow (trace x []) vs) (heard_grow (trace x []) vs)

told_events : (es : List expression.Event) (rest : List Entry) (vs : List Value) → told_by (map entry_of es ++ rest) vs ≡ told_by rest (grow es vs)
unfolding grow
told_events [] rest vs = refl
told_events (NameE w ∷ es) rest vs = told_events es rest (made_by (NameE w) vs)
told_events (LiteralE w ∷ es) rest vs = told_events es rest (made_by (LiteralE w) vs)
told_events (TextE w ∷ es) rest vs = told_events es rest (made_by (TextE w) vs)
told_events (MacroE w ∷ es) rest vs = told_events es rest (made_by (MacroE w) vs)
told_events (WordE w ∷ es) rest vs = told_events es rest (made_by (WordE w) vs)
told_events (PartSelectE w ∷ es) rest vs = told_events es rest (made_by (PartSelectE w) vs)
told_events (MemberOfE w ∷ es) rest vs = told_events es rest (made_by (MemberOfE w) vs)
told_events (Made t ∷ es) rest vs = told_events es rest (made_by (Made t) vs)

told_expression : (x : NormalExpr) (rest : List Entry) (vs : List Value) → told_by (entries_of x ++ rest) vs ≡ told_by rest (Tree x ∷ vs)
told_expression x rest vs = told_events (trace x []) rest vs ∙ ap (told_by rest) (grown_tree x vs)

told_file : (es : List Event) (vs : List Value) → told_by (entries es) vs ≡ before vs es
told_file [] vs = refl
told_file (Makes a ∷ es) vs = ap (λ v. before vs (Makes a ∷ v)) (told_file es [])
told_file (Names w ∷ es) vs = ap (λ v. before vs (Names w ∷ v)) (told_file es [])
told_file (Reads (IsPath p) ∷ es) vs = ap (λ v. before vs (Reads (IsPath p) ∷ v)) (told_file es [])
told_file (Reads (IsExpression x) ∷ es) vs = told_expression x (entries es) vs ∙ told_file es (Tree x ∷ vs)
told_file (Reads (IsLoop i x e) ∷ es) vs =
    let end : List Entry = Says role.Variable i ∷ [] in
    ap (λ v. told_by v vs) (append_assoc (entries_of x) (entries_of e ++ end) (entries es))
    ∙ (told_expression x ((entries_of e ++ end) ++ entries es) vs
    ∙ (ap (λ v. told_by v (Tree x ∷ vs)) (append_assoc (entries_of e) end (entries es))
    ∙ (told_expression e (end ++ entries es) (Tree x ∷ vs)
    ∙ ap (λ v. before vs (Reads (IsLoop i x e) ∷ v)) (told_file es []))))

told_again : (es : List Event) → told_in (written (entries es)) ≡ es
unfolding told_in
told_again es = ap (λ v. told_by v []) (read_entries (entries es)) ∙ told_file es []

-- What is written alike was told alike.
pub one_writing : (es fs : List Event) → written (entries es) ≡ written (entries fs) → es ≡ fs
one_writing es fs e = sym (told_again es) ∙ (ap told_in e ∙ told_again fs)

pub tree_again : (x : NormalExpr) → tree_of (written (entries_of x)) ≡ x
unfolding tree_of
tree_again x = ap (λ v. first_expression (told_in (written v))) (sym (append-nil (entries_of x))) ∙ ap first_expression (told_again (Reads (IsExpression x) ∷ []))

pub tree_spoken : (x : NormalExpr) (w : Written) → IsOf x w → tree_of w ≡ x
tree_spoken x w e = ap tree_of e ∙ tree_again x

pub whole_of : (x : NormalExpr) (w : Written) → IsOf x w → IsWhole w
whole_of x w e = e ∙ ap (λ v. written (entries_of v)) (sym (tree_spoken x w e))

-- Events before others.

abbrev Extends : (List expression.Event → List expression.Event) → Type 0
Extends f = (es : List expression.Event) → f es ≡ f [] ++ es

one : (e : expression.Event) → Extends (λ es. e ∷ es)
one e es = refl

then : (f g : List expression.Event → List expression.Event) → Extends f → Extends g → Extends (λ es. f (g es))
then f g a b es = a (g es) ∙ (ap (λ v. f [] ++ v) (b es) ∙ (sym (append_assoc (f []) (g []) es) ∙ ap (λ v. v ++ es) (sym (a (g [])))))

mutual
  unfolding trace

  extends : (x : NormalExpr) → Extends (trace x)
  extends (Name w) = one (NameE w)
  extends (Literal w) = one (LiteralE w)
  extends (Text w) = one (TextE w)
  extends (MacroAlone w) = one (MacroE w)
  extends (Unary o x) = then (trace x) _ (extends x) (one (Made (UnaryT o)))
  extends (Binary o x y) = then (trace x) _ (extends x) (then (trace y) _ (extends y) (one (Made (BinaryT o))))
  extends (Ternary x y z) = then (trace x) _ (extends x) (then (trace y) _ (extends y) (then (trace z) _ (extends z) (one (Made TernaryT))))
  extends (Index x y) = then (trace x) _ (extends x) (then (trace y) _ (extends y) (one (Made IndexT)))
  extends (Slice x y z) = then (trace x) _ (extends x) (then (trace y) _ (extends y) (then (trace z) _ (extends z) (one (Made SliceT))))
  extends (PartSelect x y n) = then (trace x) _ (extends x) (then (trace y) _ (extends y) (one (PartSelectE n)))
  extends (MemberOf x n) = then (trace x) _ (extends x) (one (MemberOfE n))
  extends (Concat xs) = then (traces xs) _ (list_extends xs) (one (Made ConcatT))
  extends (Pattern xs) = then (traces xs) _ (list_extends xs) (one (Made PatternT))
  extends (Replicated n xs) = then (trace n) _ (extends n) (then (traces xs) _ (list_extends xs) (one (Made ReplicatedT)))
  extends (Call f xs) = then (λ es. WordE f ∷ es) _ (one (WordE f)) (then (traces xs) _ (list_extends xs) (one (Made CallT)))
  extends (MacroCall f xs) = then (λ es. WordE f ∷ es) _ (one (WordE f)) (then (traces xs) _ (list_extends xs) (one (Made MacroCallT)))
  extends (Cast x y) = then (trace x) _ (extends x) (then (trace y) _ (extends y) (one (Made CastT)))
  extends (PackageCast p w x) = then (λ es. WordE p ∷ (WordE w ∷ es)) _ (λ es. refl) (then (trace x) _ (extends x) (one (Made PackageCastT)))
  extends (WordCast k x) = then (trace x) _ (extends x) (one (Made (WordCastT k)))

  list_extends : (xs : NormalExprs) → Extends (traces xs)
  list_extends NoNormals = one (Made NoneT)
  list_extends (MoreNormals x xs) = then (trace x) _ (extends x) (then (λ es. Made OneT ∷ es) _ (one (Made OneT)) (more_extend xs))

  more_extend : (xs : NormalExprs) → Extends (mores xs)
  more_extend NoNormals = λ es. refl
  more_extend (MoreNormals x xs) = then (trace x) _ (extends x) (then (λ es. Made PushT ∷ es) _ (one (Made PushT)) (more_extend xs))

-- How the condition of a loop is written.
pub written_condition : (i : List ℕ) (e : NormalExpr) → written (entries_of (less_than i e)) ≡ between (note.Says role.Name) i (written (entries_of e)) (note.Tells (BinaryT Less))
unfolding trace
written_condition i e =
    let last : List expression.Event = Made (BinaryT Less) ∷ [] in
    ap (λ v. written (Says role.Name i ∷ map entry_of v)) (extends e last)
    ∙ (ap (λ v. written (Says role.Name i ∷ v)) (map-append entry_of (trace e []) last)
    ∙ (written_both (Says role.Name i ∷ []) (entries_of e ++ (Tells (BinaryT Less) ∷ []))
    ∙ ap (joined (written (Says role.Name i ∷ []))) (written_both (entries_of e) (Tells (BinaryT Less) ∷ []))))

-- What was heard of an expression.

module _ {A : Type 0} (told : A → Written) where
  abbrev pub Writes : A → expression.Event → A → Type 0
  Writes a e b = told b ≡ joined (told a) (written (entry_of e ∷ []))

  heard_written : (es : List expression.Event) (a c : A) → HearsAll Writes a es c → told c ≡ joined (told a) (written (map entry_of es))
  heard_written [] a c h = sym (ap told h) ∙ sym (joined_nothing (told a))
  heard_written (e ∷ es) a c (b, h, r) =
      heard_written es b c r ∙ (ap (λ v. joined v (written (map entry_of es))) h
      ∙ (joined_assoc (told a) (written (entry_of e ∷ [])) (written (map entry_of es))
      ∙ ap (joined (told a)) (sym (written_both (entry_of e ∷ []) (map entry_of es)))))

  module _ (k : ℕ) (ts us : List Token) (a c : A) where
    spoken : (b : Bool) → IsHeard Writes k ts a b us c → b ≡ true → told a ≡ nothing_written → (x : NormalExpr) × IsRead k ts x us × IsOf x (told c)
    spoken b r e n = let read = subst (λ v. IsHeard Writes k ts a v us c) e r in
        (read.0, read.1, heard_written (trace read.0 []) a c read.2 ∙ ap (λ v. joined v (written (entries_of read.0))) n)

    -- it is how one is written, and that one was read
    pub spoken_whole : (b : Bool) → IsHeard Writes k ts a b us c → b ≡ true → told a ≡ nothing_written → IsWhole (told c)
    spoken_whole b r e n = let x = spoken b r e n in whole_of x.0 (told c) x.2

    pub spoken_read : (b : Bool) → IsHeard Writes k ts a b us c → b ≡ true → told a ≡ nothing_written → IsRead k ts (tree_of (told c)) us
    spoken_read b r e n = let x = spoken b r e n in subst (λ v. IsRead k ts v us) (sym (tree_spoken x.0 (told c) x.2)) x.1

-- What was heard of the condition of a loop: as it is written, and what is made of it.

module _ {A : Type 0} (told : A → Written) (made : A → List Value) where
  abbrev pub WritesAndMakes : A → expression.Event → A → Type 0
  WritesAndMakes a e b = Grown (grown e (made a)) (made b) × Writes told a e b

  all_made : (es : List expression.Event) (a c : A) → HearsAll WritesAndMakes a es c → HearsAll (Hears made) a es c
  all_made [] a c h = h
  all_made (e ∷ es) a c (b, h, r) = (b, h.0, all_made es b c r)

  all_written : (es : List expression.Event) (a c : A) → HearsAll WritesAndMakes a es c → HearsAll (Writes told) a es c
  all_written [] a c h = h
  all_written (e ∷ es) a c (b, h, r) = (b, h.1, all_written es b c r)

  pub condition_heard : (ts us : List Token) (a c : A) (b : Bool) → IsHeard WritesAndMakes 0 ts a b us c → b ≡ true → told a ≡ nothing_written → made a ≡ [] →
      (x : NormalExpr) × IsRead 0 ts x us × (made c ≡ (Tree x ∷ [])) × IsOf x (told c)
  condition_heard ts us a c b r e n m = let read = subst (λ v. IsHeard WritesAndMakes 0 ts a v us c) e r in (
    read.0,
    read.1,
    heard_one made read.0 a c (all_made (trace read.0 []) a c read.2) ∙ ap (λ vs. Tree read.0 ∷ vs) m,
    heard_written told (trace read.0 []) a c (all_written (trace read.0 []) a c read.2) ∙ ap (λ v. joined v (written (entries_of read.0))) n,
  )

-- The end of a loop, between the ends of its condition.

module _ (i : List ℕ) (e : NormalExpr) (w p : Written) (o : Option Piece) where
  abbrev Inner : Type 0
  Inner = (first last : Note) (text : List ℕ) (v : Written) → p ≡ between first text v last → option_map piece_view o ≡ Some v

  inner_written : IsOf (less_than i e) w → p ≡ w → Inner → option_map piece_view o ≡ Some (written (entries_of e))
  inner_written h q f = f (note.Says role.Name) (note.Tells (BinaryT Less)) i (written (entries_of e)) (q ∙ (h ∙ written_condition i e))

  pub end_found : IsOf (less_than i e) w → p ≡ w → Inner → (piece : Piece) → o ≡ Some piece → IsOf e (piece_view piece)
  end_found h q f piece d = let found : Some (piece_view piece) ≡ Some (written (entries_of e)) = sym (ap (option_map piece_view) d) ∙ inner_written h q f in cc found

  pub end_missing : IsOf (less_than i e) w → p ≡ w → Inner → o ≡ None → ⊥
  end_missing h q f d = let found : None ≡ Some (written (entries_of e)) = sym (ap (option_map piece_view) d) ∙ inner_written h q f in absurd (cc found)
