-- The two kinds of key, by the names that they have in code.
use Rattle.pending.specs.declared.id.Id.{Id}
use Rattle.pending.specs.declared.client.ClientKind.{ClientKind}
use Rattle.pending.specs.declared.task.TaskKind.{TaskKind}

abbrev pub Client : Type 0
Client = Id ClientKind

abbrev pub Task : Type 0
Task = Id TaskKind
