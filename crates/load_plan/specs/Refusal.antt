-- What a refusal says to C.
-- number_of r      document 01's number of the refusal r
-- fault_of r       with 20, what the reader says of the file
-- reader_of r      its number, else 0
-- Assumes nothing.
use Rattle.std.specs.Prelude.{ℕ, Option, Some, None}
use Rattle.endian.specs.Range as endian
use Rattle.endian.specs.declared.fault.Fault.{Fault}
use Rattle.load_plan.specs.declared.refusal.Refusal.{Refusal}
use Rattle.load_plan.specs.declared.refusal.Refusal.TheVariants.{ShortTable, TooLong, NoSegments, Unreadable, OtherKind, Unfit, Skewed, Outside, Clash, WriteExec, NoEntry}

abbrev pub number_of : Refusal → ℕ
number_of ShortTable = 14
number_of TooLong = 20
number_of NoSegments = 20
number_of (Unreadable f) = 20
number_of OtherKind = 21
number_of Unfit = 22
number_of Skewed = 23
number_of Outside = 24
number_of Clash = 25
number_of WriteExec = 26
number_of NoEntry = 27

abbrev pub fault_of : Refusal → Option Fault
fault_of ShortTable = None
fault_of TooLong = None
fault_of NoSegments = None
fault_of (Unreadable f) = Some f
fault_of OtherKind = None
fault_of Unfit = None
fault_of Skewed = None
fault_of Outside = None
fault_of Clash = None
fault_of WriteExec = None
fault_of NoEntry = None

abbrev pub fault_number : Option Fault → ℕ
fault_number None = 0
fault_number (Some f) = endian.number_of f

abbrev pub reader_of : Refusal → ℕ
reader_of r = fault_number (fault_of r)
