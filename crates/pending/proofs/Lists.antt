-- What is true of every once-pending list. Assumes nothing.
use Rattle.std.proofs.Common.{◌≡◌, true}
use Rattle.pending.specs.Numbers.{distinct}
use Rattle.pending.specs.Lists.{order}
use Rattle.pending.specs.declared.list.PendingList.{PendingList}

-- no key is pending twice
pub once : {K : Type 0} (p : PendingList K) → distinct (order p) ≡ true
once p = p.distinct
