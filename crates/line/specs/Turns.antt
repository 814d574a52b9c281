-- Round robin: one bit of a word for each waiting client, and the client last taken.
-- bit: is bit c of the word set?
-- with_bit, without_bit: the word with bit c set, and the 32-bit word with it cleared.
-- turns_before: how many clients have their turn before c: c - last - 1 modulo n, with n added first, since numbers do not go below 0.
-- least: the one of least patience among the clients below n that wait; sooner is its step: c, or the one found before if it is not later.
-- LeastPatience: nobody who waits has less patience than g.
-- turns_view: what a line with such a word means, for n clients.
-- joined: the word after a put, by its answer.
-- left: the word after a take, by whom it gave.
use Rattle.std.specs.Prelude.{◌≡◌, ℕ, zero, suc, ◌+◌, ◌-◌, ◌/◌, ◌%◌, ◌^◌, ◌≤◌, Bool, true, cond, Some, None, Ok, Err, Option, Result, ◌==◌, bit_and, bit_or, nat_lt}
use Rattle.calls.specs.declared.refusal.Refusal.{Refusal}
use Rattle.line.specs.Lines.{LineView}

unfoldable pub bit : ℕ → ℕ → Bool
bit w c = w / 2 ^ c % 2 == 1

abbrev pub with_bit : ℕ → ℕ → ℕ
with_bit w c = bit_or w (2 ^ c)

abbrev pub without_bit : ℕ → ℕ → ℕ
without_bit w c = bit_and w (4294967295 - 2 ^ c)

unfoldable pub turns_before : ℕ → ℕ → ℕ → ℕ
turns_before n last c = ((c + n) - (last + 1)) % n

abbrev pub sooner : (ℕ → ℕ) → ℕ → Option ℕ → Option ℕ
sooner patience c None = Some c
sooner patience c (Some d) = cond (nat_lt (patience c) (patience d)) (Some c) (Some d)

unfoldable pub least : (ℕ → Bool) → (ℕ → ℕ) → ℕ → Option ℕ
least waits patience zero = None
least waits patience (suc n) = cond (waits n) (sooner patience n (least waits patience n)) (least waits patience n)

abbrev pub LeastPatience : LineView → ℕ → Type 0
LeastPatience line g = (c : ℕ) → line.waits c ≡ true → line.patience g ≤ line.patience c

abbrev pub turns_view : ℕ → ℕ → ℕ → LineView
turns_view n last w = record {
  size = record { clients = n; places = n; bound = n - 1 };
  waits = λ c. bit w c;
  patience = λ c. turns_before n last c;
  next = least (bit w) (turns_before n last) n;
}

abbrev pub joined : Result (Unit {0}) Refusal → ℕ → ℕ → ℕ
joined (Ok _) c w = with_bit w c
joined (Err _) c w = w

abbrev pub left : Option ℕ → ℕ → ℕ
left (Some g) w = without_bit w g
left None w = w
