-- All that a reader keeps, from what it answers. Assumes nothing.
use Rattle.std.proofs.Common.{ℕ, List, Ok, Err, vec_items, sym, ◌∙◌, arith}
use Rattle.boardfile.specs.declared.parts.BoardFile.{BoardFile}
use Rattle.boardfile.specs.declared.fault.ReadError.{ReadError}
use Rattle.boardfile.specs.Faults.{ReadRefused}
use Rattle.boardfile.specs.Reads.{ReadsAs, Reading}
use Rattle.boardfile.proofs.First.{one_file, only_memory, that_fault, no_fault, only_parts}
use Rattle.boardfile.proofs.Limit.{input_reads, input_refused}

pub refused : (b : List ℕ) (e : ReadError) → ReadRefused b e → Reading b (Err e)
refused b e x = record {
  answer = x;
  only = only_memory b e x;
  first = that_fault b e x;
  one = one_file b;
  distinct = tt;
  whole = λ input p. input_refused 24589 input e (omega arith) (rw p at x);
}

pub accepted : (b : List ℕ) (file : BoardFile) → ReadsAs b file → Reading b (Ok file)
accepted b file x = let es = vec_items file.events in record {
  answer = x;
  only = λ s es'. only_parts b file.settings s es es' x;
  first = no_fault b file.settings es x;
  one = one_file b;
  distinct = λ other y. y.0 ∙ sym x.0;
  whole = λ input p. input_reads 24589 input file.settings es (omega arith) (rw p at x);
}
