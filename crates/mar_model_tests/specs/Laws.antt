-- What the headline promises in plain words, as laws over the definitions.
use Rattle.std.specs.List.{AllByRecursion}
use Rattle.std.specs.Prelude.{List, [], map, ℕ, ◌∷◌, ◌≡◌, ◌≤◌}
use Rattle.mar_key.specs.Processed.{first_unprocessed}
use Rattle.mar_model.specs.Chain.{Chain, IsBlockAt}
use Rattle.mar_model.specs.Config.{Config}
use Rattle.mar_model.specs.Node.{ConsecutiveFrom}
use Rattle.mar_model.specs.Metadata.{pair_of}
use Rattle.mar_model.specs.Faults.{next_after}
use Rattle.mar_model.specs.Step.{Report, handed_blocks}
use Rattle.mar_model.specs.Held.{Remains}
use Rattle.mar_script.specs.Accounts.{Account, first_account, fresh_watches}
use Rattle.mar_script.specs.Script.{Line, Settings, config_of, script_bytes}
use Rattle.mar_script.specs.Text.{Done, State, running, stopped, text}
use Rattle.mar_script.specs.Run.{Headline, Premises, Run, empty_stores, fresh_stores, read_to_end}

-- each block that is handed over stands in the chain at its own height
abbrev pub AreChains : Chain → List Report → Type 0
AreChains chain reports = AllByRecursion (λ x. IsBlockAt chain x.block.height x.block) (handed_blocks reports)

-- each line of the run hands over blocks of the chain alone
abbrev pub RunHandsChain : Chain → List Done → Type 0
RunHandsChain chain run = AllByRecursion (λ d. AreChains chain d.output.made.reports) run

-- of any settings, chain and run
abbrev pub HandsOverTheChain : Type 0
HandsOverTheChain = (config : Config) (chain : Chain) (account : Account) (state : State) (run : List Done) (last : State) → Run config chain account state run last → RunHandsChain chain run

-- A state's outstanding blocks are consecutive from the first unprocessed height, and its metadata are its own.
abbrev pub IsInOrder : State → Type 0
IsInOrder (running n) = ConsecutiveFrom (first_unprocessed n.processed) n.out × (n.meta ≡ pair_of n.processed n.cutoff ∷ [])
IsInOrder (stopped e) = Unit {0}

-- the first height that is not processed is at least this, whichever pair a crash leaves
abbrev pub AtLeast : ℕ → State → Type 0
AtLeast k (running n) = k ≤ first_unprocessed n.processed
AtLeast k (stopped e) = AllByRecursion (λ p. k ≤ next_after p.processed) e.meta

-- no later state is below an earlier one, whatever crashes and is opened again
abbrev pub OutlivesRestarts : Type 0
OutlivesRestarts = (config : Config) (chain : Chain) (k : ℕ) (account : Account) (state : State) (run : List Done) (last : State) → IsInOrder state → AtLeast k state → Run config chain account state run last → AllByRecursion (λ d. AtLeast k d.after) run

-- A script and an output: for some lawful chain, and for each one, the output is the text of a run of
-- lives on the script's lines, and the headline holds of them, from empty stores on.
pub record IsRunOf (script output : List ℕ) : Type 0 where
  pub settings : Settings
  pub lines : List Line
  pub spelled : script ≡ script_bytes settings lines
  pub chain : Chain
  pub premises : Premises (config_of settings) chain lines empty_stores
  pub run : List Done
  pub last : State
  pub lines_done : map (λ d. d.line) run ≡ lines
  pub lives : Run (config_of settings) chain (first_account fresh_watches) (stopped empty_stores) run last
  pub text_is : output ≡ text empty_stores run
  pub after : Remains
  pub headline : Headline script [] output read_to_end fresh_stores after
