-- Each refusal's number and value.
-- refusal_number: the number of the question at the door that was answered 'no'.
-- refusal_value: what is told beside it, the device's verdict on a rejected order.
-- OnlyRefusal: no other refusal has its number and value.
-- refusal_eq: have they the same number and value?
use Rattle.std.specs.Prelude.{◌≡◌, ℕ, Bool, ◌&&◌, ◌==◌, Some, None, Option}
use Rattle.std.specs.Option.{option_eq}
use Rattle.calls.specs.declared.refusal.Refusal.{Refusal}
use Rattle.calls.specs.declared.refusal.Refusal.TheVariants.{NoSuchClient, AlreadyRequested, LineFull, NotFreeAtOnce, NotOwner, TransferNotQuiet, OrderRejected, NoTransfer, TransferNotFinished, PowerNotChanging, NoTransferRunning, NoSuchTask, GrantTask, AlreadyPending, NoTaskPending, ClientsOutOfRange, PlacesOutOfRange, TasksOutOfRange, LineNotFresh, DeviceNotAtRest}

abbrev pub refusal_number : Refusal → ℕ
refusal_number NoSuchClient = 1
refusal_number AlreadyRequested = 2
refusal_number LineFull = 3
refusal_number NotFreeAtOnce = 4
refusal_number NotOwner = 5
refusal_number TransferNotQuiet = 6
refusal_number (OrderRejected verdict) = 7
refusal_number NoTransfer = 8
refusal_number TransferNotFinished = 9
refusal_number PowerNotChanging = 10
refusal_number NoTransferRunning = 11
refusal_number NoSuchTask = 12
refusal_number GrantTask = 13
refusal_number AlreadyPending = 14
refusal_number NoTaskPending = 15
refusal_number ClientsOutOfRange = 16
refusal_number PlacesOutOfRange = 17
refusal_number TasksOutOfRange = 18
refusal_number LineNotFresh = 19
refusal_number DeviceNotAtRest = 20

abbrev pub refusal_value : Refusal → Option ℕ
refusal_value NoSuchClient = None
refusal_value AlreadyRequested = None
refusal_value LineFull = None
refusal_value NotFreeAtOnce = None
refusal_value NotOwner = None
refusal_value TransferNotQuiet = None
refusal_value (OrderRejected verdict) = Some verdict
refusal_value NoTransfer = None
refusal_value TransferNotFinished = None
refusal_value PowerNotChanging = None
refusal_value NoTransferRunning = None
refusal_value NoSuchTask = None
refusal_value GrantTask = None
refusal_value AlreadyPending = None
refusal_value NoTaskPending = None
refusal_value ClientsOutOfRange = None
refusal_value PlacesOutOfRange = None
refusal_value TasksOutOfRange = None
refusal_value LineNotFresh = None
refusal_value DeviceNotAtRest = None

abbrev pub OnlyRefusal : Refusal → Type 0
OnlyRefusal r = (other : Refusal) → refusal_number other ≡ refusal_number r → refusal_value other ≡ refusal_value r → other ≡ r

abbrev pub refusal_eq : Refusal → Refusal → Bool
refusal_eq x y = refusal_number x == refusal_number y && option_eq (λ a b. a == b) (refusal_value x) (refusal_value y)
