use Rattle.vast_session.proofs.MadeSteps.{made_packed_step}
use Rattle.vast_session.proofs.session.Session.made_call.Goals as goal

pub returns-in-Operator-clause-made : goal.returns-in-Operator-clause-made
returns-in-Operator-clause-made c =
    λ e. made_packed_step c.args.self.now c.made_at.new.self c.args.bytes.now c.in-Some.arguments.now c.in-Some.place _ c.in-Some.ensures c.in-Operator.is (c.made_at.ensures.made e)

pub returns-in-Expression-clause-made : goal.returns-in-Expression-clause-made
returns-in-Expression-clause-made c =
    λ e. made_packed_step c.args.self.now c.made_at-in-Expression.new.self c.args.bytes.now c.in-Some.arguments.now c.in-Some.place _ c.in-Some.ensures c.in-Expression.is (c.made_at-in-Expression.ensures.made e)

pub returns-in-DataType-clause-made : goal.returns-in-DataType-clause-made
returns-in-DataType-clause-made c =
    λ e. made_packed_step c.args.self.now c.made_at-in-DataType.new.self c.args.bytes.now c.in-Some.arguments.now c.in-Some.place _ c.in-Some.ensures c.in-DataType.is (c.made_at-in-DataType.ensures.made e)

pub returns-in-Module-clause-made : goal.returns-in-Module-clause-made
returns-in-Module-clause-made c =
    λ e. made_packed_step c.args.self.now c.made_at-in-Module.new.self c.args.bytes.now c.in-Some.arguments.now c.in-Some.place _ c.in-Some.ensures c.in-Module.is (c.made_at-in-Module.ensures.made e)

pub returns-in-Loop-clause-made : goal.returns-in-Loop-clause-made
returns-in-Loop-clause-made c =
    λ e. made_packed_step c.args.self.now c.made_at-in-Loop.new.self c.args.bytes.now c.in-Some.arguments.now c.in-Some.place _ c.in-Some.ensures c.in-Loop.is (c.made_at-in-Loop.ensures.made e)

pub returns-in-Statement-clause-made : goal.returns-in-Statement-clause-made
returns-in-Statement-clause-made c =
    λ e. made_packed_step c.args.self.now c.made_at-in-Statement.new.self c.args.bytes.now c.in-Some.arguments.now c.in-Some.place _ c.in-Some.ensures c.in-Statement.is (c.made_at-in-Statement.ensures.made e)

pub returns-in-Artifact-clause-made : goal.returns-in-Artifact-clause-made
returns-in-Artifact-clause-made c =
    λ e. made_packed_step c.args.self.now c.made_at-in-Artifact.new.self c.args.bytes.now c.in-Some.arguments.now c.in-Some.place _ c.in-Some.ensures c.in-Artifact.is (c.made_at-in-Artifact.ensures.made e)
