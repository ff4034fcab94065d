-- What is asked of one line of a script and of the state before it, and what a line that was done makes of that state.
use Rattle.std.specs.List.{AllByRecursion, filter_map}
use Rattle.std.specs.Prelude.{Contains, IfSome, List, [], length, ℕ, ⊤, ◌*◌, ◌++◌, ◌+◌, ◌<◌, ◌^◌, ◌≡◌, ◌≤◌}
use Rattle.mar_types.specs.Epochs.{IsPartition}
use Rattle.mar_cert.specs.Block.{Block}
use Rattle.mar_cert.specs.Finalization.{Finalization, finalization_bytes}
use Rattle.mar_store.specs.Sizes.{IsSmall}
use Rattle.mar_model.specs.Messages.{report_finalization}
use Rattle.mar_model.specs.Acks.{mark_dropped}
use Rattle.mar_model.specs.Cached.{Cached, cached_block}
use Rattle.mar_model.specs.Chain.{Chain, IsBlockAt, IsLawful}
use Rattle.mar_model.specs.Config.{Config}
use Rattle.mar_model.specs.Faults.{from_genesis}
use Rattle.mar_model.specs.Held.{IsUsual}
use Rattle.mar_model.specs.Lives.{IsGoodEnded}
use Rattle.mar_model.specs.Node.{IsFinalized, IsGood, Node, Rest}
use Rattle.mar_model.specs.Promise.{AreOne}
use Rattle.mar_script.specs.Accounts.{Account}
use Rattle.mar_script.specs.Run.{IsExcusedFault, IsSmooth, LineDone, line_blocks}
use Rattle.mar_script.specs.Script.{Field, Line, as_block, as_finalization, line_fields, open_line, tell_line}
use Rattle.mar_script.specs.Text.{Output, State, running, stopped}

-- the greatest window of a script's settings
abbrev pub max_window : ℕ
max_window = 1024

-- the most lines behind which tickets are sure to be left; a script has fewer
abbrev pub most_turns : ℕ
most_turns = 2 ^ 40

-- no block is outstanding whose acknowledgement was dropped
abbrev pub IsUndropped : State → Type 0
IsUndropped (running n) = AllByRecursion (λ a. a.mark ≡ mark_dropped → ⊥) n.out
IsUndropped (stopped e) = ⊤

-- The tickets are as few as so many lines can have given: a line hands over at most a window of blocks, and gives at most two
-- tickets of syncs and one of an answer.
pub record IsLasting (k : ℕ) (n : Node) : Type 0 where
  pub tickets : n.next_ack ≤ max_window * k
  pub sync_tickets : n.next_sync ≤ 2 * k
  pub answer_tickets : n.next_answer ≤ k

-- A state behind so many lines: a good node that rests, or what is left good for the chain.
abbrev pub IsBetween : Config → Chain → ℕ → State → Type 0
IsBetween config chain k (running n) = IsGood config chain n × Rest config.window n × IsLasting k n
IsBetween config chain k (stopped e) = IsGoodEnded chain e × (0 < length e.meta)

abbrev pub buffer_in : State → List Block
buffer_in (running n) = n.buffer
buffer_in (stopped e) = []

-- what is cached, and what a crash may leave of that
abbrev pub cached_in : State → List Cached
cached_in (running n) = n.cache.held ++ n.cache.may
cached_in (stopped e) = e.cache_may

-- the blocks among that
abbrev pub cached_blocks_in : State → List Block
cached_blocks_in s = filter_map cached_block (cached_in s)

-- the blocks that a line may meet beside its own: the chain's, those of the buffer, and those that may be cached
abbrev pub known_in : Chain → State → List Block
known_in chain s = chain.blocks ++ (buffer_in s ++ cached_blocks_in s)

-- What is asked of the chain, of the state behind k lines and of the next one: a digest names one block of those that the line
-- brings or may meet, a genesis is the chain's block 0, a reported finalization is the chain's; the window is no more than a
-- script may have, and lines are as few as tickets last for.
pub record IsLawfulLine (config : Config) (chain : Chain) (k : ℕ) (before : State) (line : Line) : Type 0 where
  pub partition : IsPartition config.epochs
  pub lawful : IsLawful config.epochs chain
  pub between : IsBetween config chain k before
  pub few : k ≤ most_turns
  pub narrow : config.window ≤ max_window
  pub one : AreOne config.inner (line_blocks line ++ known_in chain before)
  pub genesis : (b : Block) → line ≡ open_line (from_genesis b) → IsBlockAt chain 0 b
  pub reported : (f : Finalization) → line ≡ tell_line (report_finalization f) → IsFinalized chain f.round f.payload

-- What a line that was done makes of a state, with what the stores told before it.
pub record Plays (config : Config) (chain : Chain) (k : ℕ) (account : Account) (before : State) (line : Line) (out : Output) (after : State) : Type 0 where
  pub done : LineDone config chain account before line out after
  pub between : IsBetween config chain (k + 1) after
  pub buffered : (b : Block) → Contains (buffer_in after) b → Contains (buffer_in before ++ line_blocks line) b
  pub cached : (b : Block) → Contains (cached_blocks_in after) b → Contains (line_blocks line ++ known_in chain before) b
  pub excused : IfSome out.fault IsExcusedFault
  pub undropped : IsUndropped before → IsSmooth config account before line → IsUndropped after × IfSome out.fault IsUsual

-- SIZES

-- what a word brings is small enough for a store
abbrev pub IsSmallField : Field → Type 0
IsSmallField (as_block b) = IsSmall b.encoded
IsSmallField (as_finalization f) = IsSmall (finalization_bytes f)
IsSmallField field = ⊤

-- and what a line brings
abbrev pub IsSmallLine : Line → Type 0
IsSmallLine line = AllByRecursion IsSmallField (line_fields line)
