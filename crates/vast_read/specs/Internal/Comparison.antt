-- What a comparison tells.
use Rattle.std.specs.Prelude.{◌≡◌, ◌≢◌, Bool}
use Rattle.std.specs.Bool.{MatchBool}

-- True where the two are equal, and false where they are not.
abbrev pub Tells : {A : Type 0} → Bool → A → A → Type 0
Tells b x y = MatchBool b (x ≡ y) (x ≢ y)
