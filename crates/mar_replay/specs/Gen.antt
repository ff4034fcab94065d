-- What a large run of a seed does: the lines that it makes, each by what the text before it says, the replay that these
-- lines are, and the line that sums it up.
use Rattle.std.specs.List.{AllByRecursion, count_by, filter_map, flat_map}
use Rattle.std.specs.Prelude.{List, None, Option, Some, [], drop, length, map, min, ℕ, ◌++◌, ◌+◌, ◌-◌, ◌<◌, ◌^◌, ◌∷◌, ◌≡◌, ◌≤◌, ◌⊎◌}
use Rattle.mar_types.specs.Varint.{IsNumber}
use Rattle.mar_model.specs.Cached.{Cached, cached_block}
use Rattle.mar_model.specs.Faults.{from_genesis}
use Rattle.mar_model.specs.Held.{Remains}
use Rattle.mar_model.specs.Lives.{IsGoodEnded}
use Rattle.mar_model.specs.Messages.{report_finalization}
use Rattle.mar_model.specs.Promise.{AreOne}
use Rattle.mar_script.specs.Run.{Premises, ReadsLines, RunsLines, Status, out_of_memory, read_to_end}
use Rattle.mar_script.specs.Script.{Line, Settings, ack_line, buffer_line, config_of, crash_line, open_line, script_bytes, sync_line, tell_line}
use Rattle.mar_script.specs.Streams.{Takes, TakesFront}
use Rattle.mar_script.specs.Text.{Output, State, output_text, text}
use Rattle.mar_script.specs.declared.Status.{Status as StatusCode}
use Rattle.mar_script.specs.declared.Status.TheVariants as status
use Rattle.mar_gen.specs.Chain.{made_block, made_chain, made_finalization}
use Rattle.mar_gen.specs.Output.{IsOwed, blocks_in, node_words, processed_in, summary}
use Rattle.mar_gen.specs.Plan.{IsStepWithin, is_open, plan}
use Rattle.mar_replay.specs.declared.generate.Tally.{Tally}
use Rattle.mar_replay.specs.declared.generate.Coming.{Coming}
use Rattle.mar_replay.specs.declared.generate.Coming.TheVariants as coming
use Rattle.mar_script.specs.Lines.{plain_line}
use Rattle.mar_gen.specs.declared.Owed.{Owed}
use Rattle.mar_gen.specs.declared.Owed.TheVariants.{Ack, Sync}
use Rattle.mar_gen.specs.declared.Planned.{Planned}
use Rattle.mar_gen.specs.declared.Planned.TheVariants.{Buffer, Crash, Final, Open}

-- `config 4 10 4 4 5 8 0 10000`
abbrev pub gen_settings : Settings
gen_settings = record { members = 4; epoch_length = 10; window = 4; max_repair = 4; retention = 5; capacity = 8; first_epoch = 0; last_epoch = 10_000 }

-- LINES

-- the line of a step that doesn't depend on the node
abbrev pub planned_line : ℕ → Planned → Line
planned_line seed Open = open_line (from_genesis (made_block seed 0))
planned_line seed (Buffer h) = buffer_line (made_block seed h)
planned_line seed (Final h) = tell_line (report_finalization (made_finalization seed h))
planned_line seed (Crash luck) = crash_line luck

-- the line that gives a node what it waits for
abbrev pub owed_line : Owed → Line
owed_line (Sync t) = sync_line t
owed_line (Ack t) = ack_line t

-- a line that was made, and the text that it wrote
pub record MadeLine : Type 0 where
  pub line : Line
  pub text : List ℕ

-- The line that comes: what the node waits for, else the first of the steps, which is taken.
abbrev pub Comes : ℕ → List Planned → Option Owed → Line → List Planned → Type 0
Comes seed steps (Some owed) line after = (line ≡ owed_line owed) × (after ≡ steps)
Comes seed [] None line after = ⊥
Comes seed (s ∷ steps) None line after = (line ≡ planned_line seed s) × (after ≡ steps)

-- each line comes by what the text before it says; then these steps are left, and this was the last text
abbrev pub AreMade : ℕ → List Planned → List ℕ → List MadeLine → List Planned → List ℕ → Type 0
AreMade seed steps before [] left last = (left ≡ steps) × (last ≡ before)
AreMade seed steps before (m ∷ made) left last =
    (owed : Option Owed) × (after : List Planned) × IsOwed (node_words before) owed × Comes seed steps owed m.line after × AreMade seed after m.text made left last

abbrev pub lines_of : List MadeLine → List Line
lines_of made = map (λ m. m.line) made

-- what was written, the text of the settings first
abbrev pub texts_of : List ℕ → List MadeLine → List ℕ
texts_of first made = first ++ flat_map (λ m. m.text) made

-- what one line writes, whatever it does: the line that shows the node stands at its end, and only there
abbrev pub IsOneText : MadeLine → Type 0
IsOneText m = (out : Output) × (after : State) × (m.text ≡ output_text out after)

-- how many lines of the texts hand a block over
abbrev pub delivered_in : List ℕ → List MadeLine → ℕ
delivered_in first [] = blocks_in first
delivered_in first (m ∷ made) = blocks_in first + delivered_in m.text made

-- a line of the made chain's blocks and finalizations, or of a ticket or a luck
abbrev pub IsMadeLine : ℕ → ℕ → Line → Type 0
IsMadeLine seed n line = ((s : Planned) × IsStepWithin n s × (line ≡ planned_line seed s)) ⊎ ((owed : Owed) × IsTicket owed × (line ≡ owed_line owed))
  where
    IsTicket : Owed → Type 0
    IsTicket (Sync t) = IsNumber t
    IsTicket (Ack t) = IsNumber t

-- what comes behind a text where the plan has come to this place: a line and the place behind it, or the end and the
-- processed height
abbrev pub ComesBehind : ℕ → ℕ → ℕ → List ℕ → Coming → Type 0
ComesBehind seed n place before (coming.Next line after) =
    (owed : Option Owed) × IsOwed (node_words before) owed × Comes seed (drop place (plan seed n)) owed (plain_line line) (drop after (plan seed n)) × IsMadeLine seed n (plain_line line)
ComesBehind seed n place before (coming.End processed) = IsOwed (node_words before) None × (drop place (plan seed n) ≡ []) × (processed.items ≡ processed_in (node_words before))

-- THE RUN

-- of the made chain's blocks, equal digests mean equal blocks
abbrev pub HasOwnDigests : ℕ → ℕ → Type 0
HasOwnDigests seed n = (i j : ℕ) → i ≤ n → j ≤ n → (made_block seed i).digest ≡ (made_block seed j).digest → made_block seed i ≡ made_block seed j

-- of the blocks that may be left cached, a commitment is its block's digest, and equal digests mean equal blocks
abbrev pub HasOwnCachedDigests : List Cached → Type 0
HasOwnCachedDigests cached = AreOne (λ commitment. commitment) (filter_map cached_block cached)

-- The made lines are a script that a replay reads whole, and they are replayed so. All that the headline asks of them
-- is that no two blocks of the made chain have one digest, that blocks that may be left cached have digests of their own, and
-- that the stores were good for it.
pub record RunsMade (seed n : ℕ) (lines : List Line) (status : Status) (bytes : List ℕ) (before after : Remains) : Type 0 where
  pub reads : ReadsLines (Some gen_settings) lines [] status (script_bytes gen_settings lines) []
  pub premises : HasOwnDigests seed n → HasOwnCachedDigests before.ended.cache_may → IsGoodEnded (made_chain seed n) before.ended → 0 < length before.ended.meta → Premises (config_of gen_settings) (made_chain seed n) lines before.ended
  pub runs : RunsLines (Some gen_settings) lines status bytes before after

-- Lines were made until the steps were done and nothing was owed, and replayed; so many blocks were handed over, as
-- far as the count goes, and so the node showed its processed height last.
pub record RunsWhole (seed n : ℕ) (before after : Remains) (delivered : ℕ) (processed : List ℕ) : Type 0 where
  pub made : List MadeLine
  pub last : List ℕ
  pub are_made : AreMade seed (plan seed n) (text before.ended []) made [] last
  pub each_text : AllByRecursion IsOneText made
  pub nothing_owed : IsOwed (node_words last) None
  pub runs : RunsMade seed n (lines_of made) read_to_end (texts_of (text before.ended []) made) before after
  pub delivered_is : delivered ≡ min (delivered_in (text before.ended []) made) (2 ^ 64 - 1)
  pub processed_is : processed ≡ processed_in (node_words last)

-- memory ran out behind these lines
pub record RunsShort (seed n : ℕ) (before after : Remains) : Type 0 where
  pub lines : List Line
  pub bytes : List ℕ
  pub runs : RunsMade seed n lines out_of_memory bytes before after

-- a whole run, or one that memory cut short, by what it came to
abbrev pub RunsTo : ℕ → ℕ → Remains → Remains → Option Tally → Type 0
RunsTo seed n before after (Some tally) = RunsWhole seed n before after tally.delivered tally.processed.items
RunsTo seed n before after None = RunsShort seed n before after

-- the line was written whole or in part, or some of it where memory ran out
abbrev pub WritesLine : Option (List ℕ) → List ℕ → Option (List ℕ) → StatusCode → Type 0
WritesLine sunk line sunk' status.Ok = Takes sunk line sunk'
WritesLine sunk line sunk' status.WriteFault = TakesFront sunk line sunk'
WritesLine sunk line sunk' status.Memory = (front : List ℕ) × Takes sunk front sunk'
WritesLine sunk line sunk' _ = ⊥

-- the line that sums a whole run up
pub record SumsUp (seed n : ℕ) (before after : Remains) (line : List ℕ) : Type 0 where
  pub delivered : ℕ
  pub processed : List ℕ
  pub whole : RunsWhole seed n before after delivered processed
  pub line_is : line ≡ summary seed n delivered processed (count_by is_open (plan seed n))

-- What `gen` does: a whole run, of which the line was written whole or in part; or memory ran out, before or while the
-- line was written.
abbrev pub Generates : ℕ → ℕ → Option (List ℕ) → Option (List ℕ) → StatusCode → Remains → Remains → Type 0
Generates seed n sunk sunk' status.Ok before after = (line : List ℕ) × SumsUp seed n before after line × Takes sunk line sunk'
Generates seed n sunk sunk' status.WriteFault before after = (line : List ℕ) × SumsUp seed n before after line × TakesFront sunk line sunk'
Generates seed n sunk sunk' status.Memory before after = RunsShort seed n before after × ((front : List ℕ) × Takes sunk front sunk')
Generates seed n sunk sunk' _ before after = ⊥
