use Rattle.vast_calls.specs.declared.table.numbered.Place.TheVariants.{Operator, Expression, DataType, Module, Loop, Statement, Artifact, Question, Helper}
use Rattle.vast_calls.proofs.CallRows.{row_at}
use Rattle.vast_calls.proofs.table.numbered.Place.row.Goals as goal

pub returns-in-Operator : goal.returns-in-Operator
returns-in-Operator c = row_at c.args.self (Operator c.in-Operator.place) c.row_at.result c.in-Operator.is c.row_at.ensures

pub returns-in-Expression : goal.returns-in-Expression
returns-in-Expression c = row_at c.args.self (Expression c.in-Expression.place) c.row_at-in-Expression.result c.in-Expression.is c.row_at-in-Expression.ensures

pub returns-in-DataType : goal.returns-in-DataType
returns-in-DataType c = row_at c.args.self (DataType c.in-DataType.place) c.row_at-in-DataType.result c.in-DataType.is c.row_at-in-DataType.ensures

pub returns-in-Module : goal.returns-in-Module
returns-in-Module c = row_at c.args.self (Module c.in-Module.place) c.row_at-in-Module.result c.in-Module.is c.row_at-in-Module.ensures

pub returns-in-Loop : goal.returns-in-Loop
returns-in-Loop c = row_at c.args.self (Loop c.in-Loop.place) c.row_at-in-Loop.result c.in-Loop.is c.row_at-in-Loop.ensures

pub returns-in-Statement : goal.returns-in-Statement
returns-in-Statement c = row_at c.args.self (Statement c.in-Statement.place) c.row_at-in-Statement.result c.in-Statement.is c.row_at-in-Statement.ensures

pub returns-in-Artifact : goal.returns-in-Artifact
returns-in-Artifact c = row_at c.args.self (Artifact c.in-Artifact.place) c.row_at-in-Artifact.result c.in-Artifact.is c.row_at-in-Artifact.ensures

pub returns-in-Question : goal.returns-in-Question
returns-in-Question c = row_at c.args.self (Question c.in-Question.place) c.row_at-in-Question.result c.in-Question.is c.row_at-in-Question.ensures

pub returns-in-Helper : goal.returns-in-Helper
returns-in-Helper c = row_at c.args.self (Helper c.in-Helper.place) c.row_at-in-Helper.result c.in-Helper.is c.row_at-in-Helper.ensures
