-- Levels of the grammar of expressions: none is above 14, and what is of one is of those below.
use Rattle.std.proofs.Common.{◌≡◌, ℕ, zero, suc, ◌+◌, ◌-◌, ◌≤◌, List, subst, arith}
use Rattle.vast_literal.specs.Tokens.{Op, LogicOr, level, Token}
use Rattle.vast_literal.specs.NormalExpr.{NormalExpr}
use Rattle.vast_literal.specs.Grammar.{Spells, up}

pub level_small : (op : Op) → level op ≤ 11
unfolding level
level_small LogicOr = omega arith
level_small _ = omega arith

-- down n levels
down : (n k : ℕ) (ts : List Token) (t : NormalExpr) → n + k ≤ 14 → Spells (n + k) ts t → Spells k ts t
down zero k ts t h e = subst (λ (v : ℕ). Spells v ts t) (let z : 0 + k ≡ k = omega arith in z) e
down (suc n) k ts t h e = down n k ts t (omega arith) (up (omega arith) (subst (λ (v : ℕ). Spells v ts t) (let z : suc n + k ≡ suc (n + k) = omega arith in z) e))

pub lower : (m k : ℕ) (ts : List Token) (t : NormalExpr) → k ≤ m → m ≤ 14 → Spells m ts t → Spells k ts t
lower m k ts t h small e = down (m - k) k ts t (omega arith) (subst (λ (v : ℕ). Spells v ts t) (let z : m ≡ (m - k) + k = omega arith in z) e)
