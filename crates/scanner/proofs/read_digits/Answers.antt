-- By the digits at the place and after it.
use Rattle.scanner.proofs.Counts.{digits_one, digits_two}
use Rattle.scanner.proofs.read_digits.Goals as goal

pub returns-in_default : goal.returns-in_default
returns-in_default c = digits_one c.in_ok-tens.ensures c.in_default.ensures

pub returns : goal.returns
returns c = digits_two c.in_ok-tens.ensures c.in-Some.ensures
