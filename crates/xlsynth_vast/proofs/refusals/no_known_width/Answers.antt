use Rattle.std.proofs.Common.{rules, ◌≡◌, ◌++◌, ◌∙◌, ap, IfOk, codes, string_bytes}
use Rattle.vast_core.specs.Bench.{type_of}
use Rattle.vast_core.specs.Nodes.{type_tree}
use Rattle.vast_core.specs.View.{bench}
use Rattle.xlsynth_vast.specs.Widths.{no_known_width}
use Rattle.xlsynth_vast.proofs.Widths.{worded, external, packaged}
use Rattle.xlsynth_vast.proofs.refusals.no_known_width.Goals as goal

pub returns-in-External : goal.returns-in-External
unfolding no_known_width
returns-in-External c =
    let b = bench c.args.ast.now in
    let name = string_bytes c.in-External.name in
    let made : IfOk c.format.result (λ s. string_bytes s ≡ no_known_width name) = search rules in
    external (type_of b c.args.data_type) name c.refusal.result (c.data_type.ensures.tree ∙ ap (type_tree b.nodes) c.in-External.is)
    (worded c.format.result (no_known_width name) c.refusal.result made c.refusal.ensures)

pub returns-in-Package : goal.returns-in-Package
returns-in-Package c =
    let b = bench c.args.ast.now in
    let scope = string_bytes c.deref.result.now.package_name in
    let name = string_bytes c.deref-in-Package.result.now.name in
    let words = codes "external type `" ++ (scope ++ (codes "::" ++ (name ++ codes "` has no known bit width"))) in
    let made : IfOk c.format-in-Package.result (λ s. string_bytes s ≡ words) = search rules in
    packaged (type_of b c.args.data_type) scope name c.refusal-in-Package.result (rw (c.deref.ensures, c.deref-in-Package.ensures) (c.data_type.ensures.tree ∙ ap (type_tree b.nodes) c.in-Package.is))
    (worded c.format-in-Package.result words c.refusal-in-Package.result made c.refusal-in-Package.ensures)
