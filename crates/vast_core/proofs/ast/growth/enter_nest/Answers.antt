-- proofs/ast/growth/enter_nest/Answers.antt
use Rattle.std.proofs.lemmas.Result.{on_ok_weaker, on_err_weaker}
use Rattle.vast_core.specs.Nests.{nest_record}
use Rattle.vast_core.specs.Containers.{with_entry}
use Rattle.vast_core.specs.Internal.Arrivals.{entry_of}
use Rattle.vast_core.proofs.Lists.{changed-map, unchanged-map}
use Rattle.vast_core.proofs.ast.growth.enter_nest.Goals as goal

pub returns-clause-ok : goal.returns-clause-ok
returns-clause-ok c =
    on_ok_weaker c.enter.result
    (λ h. changed-map nest_record (with_entry (entry_of c.args.entry)) c.args.nests.now.items c.args.place c.index_mut-target.result.now c.enter.new.self c.requires c.index_mut-target.ensures.value h)
    c.enter.ensures.ok

pub returns-clause-err : goal.returns-clause-err
returns-clause-err c =
    on_err_weaker c.enter.result
    (λ h. unchanged-map nest_record c.args.nests.now.items c.args.place c.index_mut-target.result.now c.enter.new.self c.requires c.index_mut-target.ensures.value h)
    c.enter.ensures.err
