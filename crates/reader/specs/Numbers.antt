-- The papers' numbers of the faults.
-- Assumes nothing.
use Rattle.std.specs.Prelude.{ℕ}
use Rattle.reader.specs.declared.refusal.Fault.{Fault}
use Rattle.reader.specs.declared.refusal.Fault.TheVariants.{TooLong, StrayByte, BadEscape, BadClass, BadCount, LeftOpen, TooDeep, TooHeavy, LineTooLong, NoSlot, WitnessTooLong, TooManyBrackets, AreaTooShort, FaultySets}

abbrev pub number_of : Fault → ℕ
number_of TooLong = 1
number_of StrayByte = 2
number_of BadEscape = 3
number_of BadClass = 4
number_of BadCount = 5
number_of LeftOpen = 6
number_of TooDeep = 7
number_of TooHeavy = 8
number_of LineTooLong = 9
number_of NoSlot = 10
number_of WitnessTooLong = 11
number_of TooManyBrackets = 12
number_of AreaTooShort = 13
number_of FaultySets = 14
