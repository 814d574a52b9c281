-- What a once-pending list means.
-- order: the numbers of its keys, the oldest first.
use Rattle.std.specs.Prelude.{ℕ, List}
use Rattle.pending.specs.Chains.{chain}
use Rattle.pending.specs.declared.list.PendingList.{PendingList}

abbrev pub order : {K : Type 0} → PendingList K → List ℕ
order p = chain p.head p.next
