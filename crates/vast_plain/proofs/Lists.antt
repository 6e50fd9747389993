-- Laws of lists whose elements are looked at one after the other.
use Rattle.std.proofs.Common.{◌≡◌, ℕ, Bool, true, false, List, [], ◌∷◌, map, refl, ap}
use Rattle.std.specs.Prelude.{◌&&◌}
use Rattle.std.specs.List.{list_all}
use Rattle.vast_literal.specs.LiteralToken.{every}
use Rattle.vast_literal.specs.Tree.{FileItemTree, ModuleItem, IncludeItem, ImportItem, TypedefItem, CommentItem, BlankItem}
use Rattle.vast_literal.specs.Plain.{is_plain_name}
use Rattle.vast_literal.specs.PlainFile.{is_plain_typedef, is_plain_module, is_path_byte, are_plain_items, is_plain_file}
use Rattle.vast_core.specs.Bench.{Bench}
use Rattle.vast_core.specs.FileTree.{item_tree, tree}
use Rattle.std.proofs.lemmas.List.{drop_more, drop_all}

-- bytes

pub every-all : (p : ℕ → Bool) (xs : List ℕ) → every p xs ≡ list_all p xs
every-all p [] = refl
every-all p (x ∷ xs) = ap (λ r. p x && r) (every-all p xs)

pub ruleset bytes = (every-all)

-- the items of a file

pub file-items : (b : Bench) → is_plain_file (tree b) ≡ are_plain_items (map (item_tree b) b.items)
unfolding tree
file-items b = refl

one-item : (plain rest : Bool) → plain && rest ≡ ((plain && true) && rest)
one-item true rest = refl
one-item false rest = refl

pub item-step : (x : FileItemTree) (xs : List FileItemTree) → are_plain_items (x ∷ xs) ≡ (are_plain_items (x ∷ []) && are_plain_items xs)
item-step (ModuleItem m) xs = one-item (is_plain_module m) (are_plain_items xs)
item-step (IncludeItem path) xs = one-item (every is_path_byte path) (are_plain_items xs)
item-step (ImportItem package_name) xs = one-item (is_plain_name package_name) (are_plain_items xs)
item-step (TypedefItem t) xs = one-item (is_plain_typedef t) (are_plain_items xs)
item-step (CommentItem text) xs = refl
item-step BlankItem xs = refl

pub ruleset items = (file-items, item-step, drop_more, drop_all)
