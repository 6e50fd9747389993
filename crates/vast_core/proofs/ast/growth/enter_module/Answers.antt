-- proofs/ast/growth/enter_module/Answers.antt
use Rattle.std.proofs.lemmas.Result.{on_ok_weaker, on_err_weaker}
use Rattle.vast_core.specs.Records.{module_record}
use Rattle.vast_core.specs.Internal.Containers.{with_change}
use Rattle.vast_core.specs.Internal.Arrivals.{change_of}
use Rattle.vast_core.proofs.Lists.{changed-map, unchanged-map}
use Rattle.vast_core.proofs.ast.growth.enter_module.Goals as goal

pub returns-clause-ok : goal.returns-clause-ok
returns-clause-ok c =
    on_ok_weaker c.enter.result
    (λ h. changed-map module_record (with_change (change_of c.args.entry)) c.args.modules.now.items c.args.owner.id.index c.index_mut-target.result.now c.enter.new.self c.requires c.index_mut-target.ensures.value h)
    c.enter.ensures.ok

pub returns-clause-err : goal.returns-clause-err
returns-clause-err c =
    on_err_weaker c.enter.result
    (λ h. unchanged-map module_record c.args.modules.now.items c.args.owner.id.index c.index_mut-target.result.now c.enter.new.self c.requires c.index_mut-target.ensures.value h)
    c.enter.ensures.err
