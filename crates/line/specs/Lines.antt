-- What a waiting line means, and what its calls do to that.
-- Capacity: what never changes: how many clients it is for, how many places it has, and the bound on patience.
-- LineView: that, which clients wait, each waiting client's patience, and the next one to be taken.
-- waiting: how many of the clients below n wait.
-- is_full, is_empty: no place is free; nobody waits.
-- LineLaw: what is true of every line.
-- put_answer: what a put of c answers: the first that fails of 'it is a client', 'it does not wait' and 'a place is free'.
-- Put: an accepted put of c. It waits too, nobody else starts or stops waiting, and no other waiting client's patience rises.
-- Took: a take of g. It was the next one and stops waiting, nobody else starts or stops, and every other waiting client's patience falls.
--   In both, the capacity is the same.
-- Puts, Takes: what a put or a take does to a line, by its answer. A refusal, and a take that yields nobody, leave the whole line as it was.
-- number_of: the number of the client, if there is one.
use Rattle.std.specs.Prelude.{◌≡◌, ℕ, zero, suc, ◌+◌, ◌<◌, ◌≤◌, Bool, true, false, cond, not, ◌≢◌, is_some, Some, None, Ok, Err, Option, Result, nat_lt}
use Rattle.std.specs.Option.{option_map}
use Rattle.calls.specs.declared.refusal.Refusal.{Refusal}
use Rattle.calls.specs.declared.refusal.Refusal.TheVariants.{NoSuchClient, AlreadyRequested, LineFull}
use Rattle.pending.specs.Ids.{Client}

pub record Capacity : Type 0 where
  pub clients : ℕ
  pub places : ℕ
  pub bound : ℕ

pub record LineView : Type 0 where
  pub size : Capacity
  pub waits : ℕ → Bool
  pub patience : ℕ → ℕ
  pub next : Option ℕ

unfoldable pub waiting : (ℕ → Bool) → ℕ → ℕ
waiting waits zero = 0
waiting waits (suc n) = cond (waits n) 1 0 + waiting waits n

abbrev pub is_full : LineView → Bool
is_full line = not (nat_lt (waiting line.waits line.size.clients) line.size.places)

abbrev pub is_empty : LineView → Bool
is_empty line = not (is_some line.next)

pub record LineLaw (line : LineView) : Type 0 where
  pub narrow : line.size.bound < 65536
  pub client : (c : ℕ) → line.waits c ≡ true → c < line.size.clients
  pub patient : (c : ℕ) → line.waits c ≡ true → line.patience c ≤ line.size.bound
  pub next_waits : (g : ℕ) → line.next ≡ Some g → line.waits g ≡ true
  pub next_none : line.next ≡ None → (c : ℕ) → line.waits c ≡ false
  pub placed : waiting line.waits line.size.clients ≤ line.size.places

abbrev pub put_answer : LineView → ℕ → Result (Unit {0}) Refusal
put_answer line c =
    cond (nat_lt c line.size.clients) (cond (line.waits c) (Err AlreadyRequested) (cond (is_full line) (Err LineFull) (Ok tt))) (Err NoSuchClient)

pub record Put (before : LineView) (c : ℕ) (after : LineView) : Type 0 where
  pub same : after.size ≡ before.size
  pub law : LineLaw after
  pub puts : after.waits c ≡ true
  pub others : (x : ℕ) → x ≢ c → after.waits x ≡ before.waits x
  pub kept : (x : ℕ) → x ≢ c → before.waits x ≡ true → after.patience x ≤ before.patience x

pub record Took (before : LineView) (g : ℕ) (after : LineView) : Type 0 where
  pub same : after.size ≡ before.size
  pub law : LineLaw after
  pub next : before.next ≡ Some g
  pub takes : after.waits g ≡ false
  pub others : (x : ℕ) → x ≢ g → after.waits x ≡ before.waits x
  pub falls : (x : ℕ) → x ≢ g → before.waits x ≡ true → after.patience x < before.patience x

abbrev pub Puts : {L : Type 0} → (L → LineView) → L → ℕ → Result (Unit {0}) Refusal → L → Type 0
Puts view before c (Ok _) after = Put (view before) c (view after)
Puts view before c (Err _) after = after ≡ before

abbrev pub Takes : {L : Type 0} → (L → LineView) → L → Option Client → L → Type 0
Takes view before (Some g) after = Took (view before) g.number (view after)
Takes view before None after = after ≡ before

abbrev pub number_of : Option Client → Option ℕ
number_of client = option_map (λ c. c.number) client
