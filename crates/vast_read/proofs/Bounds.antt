-- When an expression bounds a name.
use Rattle.std.proofs.Common.{◌≡◌, ℕ, Bool, true, false, cond, bytes_eq, codes, List, [], ◌∷◌, Some, None, refl, sym, ap, ◌∙◌}
use Rattle.std.proofs.lemmas.Slice.Eq.{bytes_eq-Decides}
use Rattle.vast_literal.specs.Tokens.{op_text}
use Rattle.vast_literal.specs.declared.token.Sign.{Sign as Op}
use Rattle.vast_literal.specs.declared.token.Sign.TheVariants.{Less, LogicNot}
use Rattle.vast_literal.specs.NormalExpr.{NormalExpr, Name, Binary}
use Rattle.vast_read.specs.Internal.Bounds.{bound_of}
use Rattle.vast_read.specs.Texts.{signs, sign_written, infix_of}
use Rattle.vast_read.specs.Internal.Bounds.{is_name_of, is_bounded}
use Rattle.vast_read.proofs.BoundsWords.{is_less}

differs : (v w : List ℕ) → (v ≡ w → ⊥) → bytes_eq v w ≡ false
differs v w d = go (bytes_eq v w) refl
  where
    go : (b : Bool) → bytes_eq v w ≡ b → b ≡ false
    go true h = absurd (d ((bytes_eq-Decides v w).0 h))
    go false h = refl

other : (w : List ℕ) → bytes_eq w (codes "<") ≡ false → w ≡ codes "<" → ⊥
other w d e = absurd (cc (d, (bytes_eq-Decides w (codes "<")).1 e))

pub name_same : (n w : List ℕ) → w ≡ n → is_name_of n (Name w) ≡ true
name_same n w e = (bytes_eq-Decides n w).1 (sym e)

pub name_other : (n w : List ℕ) → (w ≡ n → ⊥) → is_name_of n (Name w) ≡ false
name_other n w d = differs n w (λ e. d (sym e))

-- a sign that is not the first one looked for
pass : (b : Bool) (op rest : Op) → is_less op ≡ false → is_less rest ≡ false → is_less (cond b op rest) ≡ false
pass true op rest h i = h
pass false op rest h i = i

less_alone : (op : Op) → is_less op ≡ true → op ≡ Less
less_alone Less h = refl
less_alone _ h = absurd (cc)

-- no other text is that of the sign
first_not_less : (op rest : Op) (w : List ℕ) → bytes_eq w (codes "<") ≡ false → is_less rest ≡ false → is_less (cond (bytes_eq (op_text op) w) op rest) ≡ false
first_not_less op rest w d h = go (is_less op) refl
  where
    go : (b : Bool) → is_less op ≡ b → is_less (cond (bytes_eq (op_text op) w) op rest) ≡ false
    go true e = let n : bytes_eq (op_text op) w ≡ false = differs (op_text op) w (λ x. other w d (sym x ∙ ap op_text (less_alone op e))) in rw n h
    go false e = pass (bytes_eq (op_text op) w) op rest e h

none_less : (ops : List Op) (w : List ℕ) → bytes_eq w (codes "<") ≡ false → is_less (sign_written ops LogicNot w) ≡ false
none_less [] w d = refl
none_less (op ∷ ops) w d = first_not_less op (sign_written ops LogicNot w) w d (none_less ops w d)

not_less : (w : List ℕ) → bytes_eq w (codes "<") ≡ false → is_less (infix_of w) ≡ false
unfolding infix_of
not_less w d = none_less signs w d

bound_other : (n : List ℕ) (op : Op) (l r : NormalExpr) → is_less op ≡ false → bound_of n (Binary op l r) ≡ None
unfolding bound_of
bound_other n Less l r e = absurd (cc)
bound_other n _ l r e = refl

bound_sign : (n w : List ℕ) (l r : NormalExpr) → bytes_eq w (codes "<") ≡ false → bound_of n (Binary (infix_of w) l r) ≡ None
bound_sign n w l r d = bound_other n (infix_of w) l r (not_less w d)

less_name : (n : List ℕ) (l r : NormalExpr) → bound_of n (Binary Less l r) ≡ cond (is_name_of n l) (Some r) None
unfolding bound_of
less_name n (Name w) r = refl
less_name n _ r = refl

less_of : (w : List ℕ) → bytes_eq w (codes "<") ≡ true → infix_of w ≡ Less
unfolding infix_of
less_of w e = rw ((bytes_eq-Decides w (codes "<")).0 e)

bound_name : (n w : List ℕ) (l r : NormalExpr) → bytes_eq w (codes "<") ≡ true → is_name_of n l ≡ false → bound_of n (Binary (infix_of w) l r) ≡ None
bound_name n w l r e h = rw (less_of w e, less_name n l r, h)

bound_less : (n w : List ℕ) (l r : NormalExpr) → bytes_eq w (codes "<") ≡ true → is_name_of n l ≡ true → bound_of n (Binary (infix_of w) l r) ≡ Some r
bound_less n w l r e h = rw (less_of w e, less_name n l r, h)

pub ruleset names = (name_same, name_other)

test_sign : (n w : List ℕ) (l : NormalExpr) → bytes_eq w (codes "<") ≡ false → is_bounded n w l ≡ false
unfolding is_bounded
test_sign n w l e = rw e

test_name : (n w : List ℕ) (l : NormalExpr) → bytes_eq w (codes "<") ≡ true → is_bounded n w l ≡ is_name_of n l
unfolding is_bounded
test_name n w l e = rw e

pub bound_given : (n w : List ℕ) (l r : NormalExpr) → is_bounded n w l ≡ true → bound_of n (Binary (infix_of w) l r) ≡ Some r
bound_given n w l r e = go (bytes_eq w (codes "<")) refl
  where
    go : (b : Bool) → bytes_eq w (codes "<") ≡ b → bound_of n (Binary (infix_of w) l r) ≡ Some r
    go true h = bound_less n w l r h (sym (test_name n w l h) ∙ e)
    go false h = absurd (cc (e, test_sign n w l h))

pub bound_missing : (n w : List ℕ) (l r : NormalExpr) → is_bounded n w l ≡ false → bound_of n (Binary (infix_of w) l r) ≡ None
bound_missing n w l r e = go (bytes_eq w (codes "<")) refl
  where
    go : (b : Bool) → bytes_eq w (codes "<") ≡ b → bound_of n (Binary (infix_of w) l r) ≡ None
    go true h = bound_name n w l r h (sym (test_name n w l h) ∙ e)
    go false h = bound_sign n w l r h

pub ruleset bounds = (bound_given, bound_missing)
