-- proofs/ast/growth/enter_function/Answers.antt
use Rattle.std.proofs.lemmas.Result.{on_ok_weaker, on_err_weaker}
use Rattle.vast_core.specs.Nests.{function_record}
use Rattle.vast_core.specs.Functions.{with_listed_variable}
use Rattle.vast_core.proofs.Lists.{changed-map, unchanged-map}
use Rattle.vast_core.proofs.ast.growth.enter_function.Goals as goal

pub returns-clause-ok : goal.returns-clause-ok
returns-clause-ok c =
    on_ok_weaker c.enter_variable.result
    (λ h. changed-map function_record (with_listed_variable c.args.local c.args.variable) c.args.functions.now.items c.args.owner.id.index c.index_mut-target.result.now c.enter_variable.new.self c.requires c.index_mut-target.ensures.value h)
    c.enter_variable.ensures.ok

pub returns-clause-err : goal.returns-clause-err
returns-clause-err c =
    on_err_weaker c.enter_variable.result
    (λ h. unchanged-map function_record c.args.functions.now.items c.args.owner.id.index c.index_mut-target.result.now c.enter_variable.new.self c.requires c.index_mut-target.ensures.value h)
    c.enter_variable.ensures.err
