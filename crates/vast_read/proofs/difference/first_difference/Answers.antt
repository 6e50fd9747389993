use Rattle.vast_read.proofs.FilesCompared.{one_of_both, none_of_one}
use Rattle.vast_read.proofs.difference.first_difference.Goals as goal

pub returns-in-Same-clause-found : goal.returns-in-Same-clause-found
returns-in-Same-clause-found c = one_of_both c.args.old.now c.args.new.now c.in_ok-compared.field-0 c.in_ok-compared.ensures c.in-Same.is

pub returns-in-OldUnderived-clause-found : goal.returns-in-OldUnderived-clause-found
returns-in-OldUnderived-clause-found c = none_of_one c.args.old.now c.args.new.now c.in_ok-compared.field-0 c.in_ok-compared.ensures c.in-OldUnderived.is
