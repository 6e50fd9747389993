-- What an instantiation gives to parameters and ports.
use Rattle.std.proofs.Common.{◌≡◌, ℕ, zero, suc, ◌+◌, ◌<◌, List, [], ◌∷◌, ◌++◌, length, map, All, Option, Some, None, refl, ap, arith, take, get_or, add-one, Bor, IfSome, option_copied}
use Rattle.vast_core.specs.declared.node.Connection.{Connection}
use Rattle.vast_core.specs.declared.handle.Expr.{Expr}
use Rattle.vast_core.specs.declared.handle.VastDataType.{VastDataType}
use Rattle.vast_core.specs.declared.typedef.DeclaredType.{DeclaredType}
use Rattle.vast_core.specs.declared.typedef.DeclaredType.TheVariants.{Enum as EnumType}
use Rattle.vast_core.specs.Bench.{Bench, OwnsExpr, OwnsType}
use Rattle.vast_core.specs.Sound.{Each, ConnectionSound, TypedefSound}
use Rattle.vast_core.specs.WrittenKinds.{HasValue}
use Rattle.vast_core.proofs.Lists.{All-own, All-head, All-tail}
use Rattle.xlsynth_vast.specs.Instances.{connected}

-- One name and one expression more.
connected-more :
    {A B : Type 0} (f : A → List ℕ) (g : B → Option Expr) (ns : List A) (vs : List B) (i : ℕ) (n d : A) (v e : B) →
    i < length ns → i < length vs → n ≡ get_or ns i d → v ≡ get_or vs i e →
    connected (map f (take (suc i) ns)) (map g (take (suc i) vs)) ≡ connected (map f (take i ns)) (map g (take i vs)) ++ record { name = f n; value = g v } ∷ []
connected-more f g [] vs i n d v e below under is at = absurd (omega arith)
connected-more f g (m ∷ ns) [] i n d v e below under is at = absurd (omega arith)
connected-more f g (m ∷ ns) (w ∷ vs) zero n d v e below under is at = rw (is, at) refl
connected-more f g (m ∷ ns) (w ∷ vs) (suc i) n d v e below under is at = ap (λ r. record { name = f m; value = g w } ∷ r) (connected-more f g ns vs i n d v e (omega arith) (omega arith) is at)

pub one_more :
    {A B : Type 0} (f : A → List ℕ) (g : B → Option Expr) (ns : List A) (vs : List B) (i : ℕ) (n d : A) (v e : B) (made : List Connection) (c : Connection) →
    i < length ns → i < length vs → n ≡ get_or ns i d → v ≡ get_or vs i e →
    made ≡ connected (map f (take i ns)) (map g (take i vs)) →
    c ≡ record { name = f n; value = g v } →
    (made ++ c ∷ []) ≡ connected (map f (take (i + 1) ns)) (map g (take (i + 1) vs))
one_more f g ns vs i n d v e made c below under is at so_far given =
    rw (add-one, connected-more f g ns vs i n d v e below under is at, so_far, given) refl

-- What it gives is the file's, where its expressions are.

each-connected : (b : Bench) (names : List (List ℕ)) (values : List (Option Expr)) → Each (λ o. IfSome o (OwnsExpr b)) values → Each (ConnectionSound b) (connected names values)
each-connected b [] values h = tt
each-connected b (name ∷ names) [] h = tt
each-connected b (name ∷ names) (value ∷ values) h = (h.0, each-connected b names values h.1)

pub connected-sound : (b : Bench) (names : List (List ℕ)) (values : List (Option Expr)) (made : List Connection) → made ≡ connected names values → Each (λ o. IfSome o (OwnsExpr b)) values → All (ConnectionSound b) made
connected-sound b names values made e h = All-own (ConnectionSound b) made (rw e (each-connected b names values h))

-- Each parameter that it gives has a value.

each-valued : {B : Type 0} (f : B → Expr) (names : List (List ℕ)) (values : List B) → Each HasValue (connected names (map (λ v. Some (f v)) values))
each-valued f [] values = tt
each-valued f (name ∷ names) [] = tt
each-valued f (name ∷ names) (value ∷ values) = (tt, each-valued f names values)

pub connected-valued : {B : Type 0} (f : B → Expr) (names : List (List ℕ)) (values : List B) (made : List Connection) → made ≡ connected names (map (λ v. Some (f v)) values) → All HasValue made
connected-valued f names values made e = All-own HasValue made (rw e (each-valued f names values))

pub each-given : {A B : Type 0} (v : A → B) (P : B → Type 0) (xs : List A) → All (λ x. P (v x)) xs → Each P (map v xs)
each-given v P [] h = tt
each-given v P (x ∷ xs) h = (All-head (λ y. P (v y)) x xs h, each-given v P xs (All-tail (λ y. P (v y)) x xs h))

some-owned : (b : Bench) (e : Option (Bor Expr)) → IfSome e (λ x. OwnsExpr b x.now) → IfSome (option_copied e) (OwnsExpr b)
some-owned b None h = tt
some-owned b (Some x) h = h

pub each-copied : (b : Bench) (es : List (Option (Bor Expr))) → All (λ e. IfSome e (λ x. OwnsExpr b x.now)) es → Each (λ o. IfSome o (OwnsExpr b)) (map option_copied es)
each-copied b [] h = tt
each-copied b (e ∷ es) h = (some-owned b e (All-head (λ e. IfSome e (λ x. OwnsExpr b x.now)) e es h), each-copied b es (All-tail (λ e. IfSome e (λ x. OwnsExpr b x.now)) e es h))

-- An enumeration of a type and of values of the file.

pub enum-sound :
    (b : Bench) (t : DeclaredType) (d : VastDataType) (n : List ℕ) (names : List (List ℕ)) (values : List (Option (Bor Expr))) (made : List Connection) → t ≡ EnumType d n made →
    made ≡ connected names (map option_copied values) → OwnsType b d → All (λ e. IfSome e (λ x. OwnsExpr b x.now)) values → TypedefSound b t
enum-sound b t d n names values made e m o v = rw e (o, connected-sound b names (map option_copied values) made m (each-copied b values v))

pub ruleset enumerations = (enum-sound)
