-- What the stores tell beside a script's state, and what each line makes of it.
use Rattle.std.specs.Prelude.{None, Option, Some, ℕ, ◌≡◌}
use Rattle.mar_model.specs.Faults.{Fault}
use Rattle.mar_model.specs.Held.{ArePassed, FailsBy, Watches, with_armed}
use Rattle.mar_store.specs.Alarms.{fresh_watch}
use Rattle.mar_store.specs.Watch.{by_half, by_lowest_bit}
use Rattle.mar_store.specs.declared.LuckHalf.TheVariants.{High, Low}
use Rattle.mar_script.specs.Script.{Line, crash_line, fail_line}

-- What the stores tell beside a state: each one's failures and armed calls, and the luck of the next opening.
pub record Account : Type 0 where
  pub watches : Watches
  pub luck : ℕ

-- before the first line
abbrev pub first_account : Watches → Account
first_account watches = record { watches = watches; luck = 0 }

-- a crash leaves its own luck, a fault leaves 0, another line what there was
abbrev pub luck_after : ℕ → Line → Option Fault → ℕ
luck_after luck line (Some fault) = 0
luck_after luck (crash_line own) None = own
luck_after luck line None = luck

-- no call of a store failed, or those did that the fault names
abbrev pub CallsEnd : Watches → Option Fault → Watches → Type 0
CallsEnd before None now = ArePassed before now
CallsEnd before (Some fault) now = FailsBy before fault now

-- a `fail` line arms one call of its store, another line makes calls
abbrev pub Calls : Watches → Line → Option Fault → Watches → Type 0
Calls before (fail_line store k) fault now = now ≡ with_armed store k before
Calls before line fault now = CallsEnd before fault now

-- What one line makes of it, by the fault that the line ended in, if any.
pub record AccountsFor (before : Account) (line : Line) (fault : Option Fault) (after : Account) : Type 0 where
  pub luck : after.luck ≡ luck_after before.luck line fault
  pub calls : Calls before.watches line fault after.watches

-- stores in memory none of which ever failed, nor has an armed call
abbrev pub fresh_watches : Watches
fresh_watches = record {
  blocks = fresh_watch (Some (by_half Low));
  certs = fresh_watch (Some (by_half High));
  meta = fresh_watch (Some by_lowest_bit);
  cache = fresh_watch (Some (by_half Low));
}
