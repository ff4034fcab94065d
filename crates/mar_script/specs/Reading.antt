-- How far a script is read, and which line is the first outside the grammar.
use Rattle.std.specs.Prelude.{Err, IfSome, if◌then◌else◌, List, nat_lt, None, Ok, Option, Result, Some, [], ℕ, ⊤, ◌++◌, ◌≡◌, ◌≤◌}
use Rattle.mar_model.specs.Held.{Remains}
use Rattle.mar_script.specs.Lines.{plain_line}
use Rattle.mar_script.specs.Refused.{max_lines}
use Rattle.mar_script.specs.Run.{HeadlineWhereTold, IsConfigBytes, IsLineBytes, IsShownAs, ReadsLines, Status, StopsAt, out_of_memory, outside_grammar, read_failed, read_to_end, write_failed}
use Rattle.mar_script.specs.Script.{IsLine, Line, Settings, line_bytes, settings_bytes}
use Rattle.mar_script.specs.Streams.{Gives}
use Rattle.mar_script.specs.declared.line.Line.{Line as LineCode}
use Rattle.mar_script.specs.declared.reader.LineError.{LineError}
use Rattle.mar_script.specs.declared.reader.LineError.TheVariants as missing
use Rattle.mar_script.specs.declared.status.Status.{Status as StatusCode}
use Rattle.mar_script.specs.declared.status.Status.TheVariants as status
use Rattle.mar_script.specs.declared.status.Why.{Why}
use Rattle.mar_script.specs.declared.status.Why.TheVariants as why
use Rattle.mar_script.specs.declared.words.ParseError.{ParseError}
use Rattle.mar_script.specs.declared.words.ParseError.TheVariants as refused

-- how a replay ended, of the program's statuses
abbrev pub ending_of : StatusCode → Option Status
ending_of status.Ok = Some read_to_end
ending_of (status.Script n reason) = Some (outside_grammar n reason)
ending_of status.ReadFault = Some read_failed
ending_of status.WriteFault = Some write_failed
ending_of status.Memory = Some out_of_memory
ending_of status.Usage = None

-- for some settings, lines that were done, and a rest
pub record Reading (status : Status) (taken left : List ℕ) : Type 0 where
  pub settings : Option Settings
  pub lines : List Line
  pub rest : List ℕ
  pub reads : ReadsLines settings lines rest status taken left

-- read whole, the bytes have this line, counted from 1, as the first outside the grammar, for this reason
abbrev pub IsFirstOutside : List ℕ → ℕ → Why → Type 0
IsFirstOutside all n reason = Reading (outside_grammar n reason) all []

-- of the bytes that a source had and those that it has now, where it tells them
pub record ReadsTo (source now : Option (List ℕ)) (status : Status) : Type 0 where
  pub taken : List ℕ
  pub left : List ℕ
  pub told : IsShownAs source (taken ++ left)
  pub still : IsShownAs now left
  pub reading : Reading status taken left

abbrev pub Reads : Option (List ℕ) → Option (List ℕ) → StatusCode → Type 0
Reads source now code = IfSome (ending_of code) (ReadsTo source now)

-- that line is named and why, unless want of memory or a fault came before
abbrev pub EndsByLine : ℕ → Why → StatusCode → Type 0
EndsByLine n reason (status.Script m told) = (m ≡ n) × (told ≡ reason)
EndsByLine n reason status.Memory = ⊤
EndsByLine n reason status.ReadFault = ⊤
EndsByLine n reason status.WriteFault = ⊤
EndsByLine n reason status.Ok = ⊥
EndsByLine n reason status.Usage = ⊥

-- The headline of a replay: of what its source and sink held before and after, where they tell it, of how it ended, and
-- of its stores before and after.
abbrev pub ReplaysWhereTold : Option (List ℕ) → Option (List ℕ) → Option (List ℕ) → Option (List ℕ) → StatusCode → Remains → Remains → Type 0
ReplaysWhereTold source left sink sunk code before after = IfSome (ending_of code) (λ status. HeadlineWhereTold source left sink sunk status before after)

-- ONE LINE

-- line n, refused for this reason; past the last that a script may have, a line is one too many whatever it is
abbrev pub refused_at : ℕ → Why → StatusCode
refused_at n reason = status.Script n (if nat_lt max_lines n then why.TooMany else reason)

-- why line n can't be had
abbrev pub missing_status : ℕ → LineError → StatusCode
missing_status n missing.Unended = refused_at n why.Unended
missing_status n missing.TooLong = refused_at n why.TooLong
missing_status n missing.ReadFault = status.ReadFault
missing_status n missing.Memory = status.Memory

-- why line n is refused
abbrev pub refused_status : ℕ → ParseError → StatusCode
refused_status n refused.Grammar = refused_at n why.Grammar
refused_status n refused.Memory = status.Memory

-- nothing of the bytes is done, and why
pub record StopsWith (k : ℕ) (IsSpelled : List ℕ → Type 0) (rest : List ℕ) (now : Option (List ℕ)) (status : Status) : Type 0 where
  pub left : List ℕ
  pub still : IsShownAs now left
  pub stops : StopsAt k IsSpelled rest left status

-- of the bytes that were pending or read: the first line's settings, or why there are none
abbrev pub IsFirst : List ℕ → Result Settings StatusCode → List ℕ → Option (List ℕ) → Type 0
IsFirst bytes (Ok s) still now = bytes ≡ settings_bytes s ++ still
IsFirst bytes (Err code) still now = IfSome (ending_of code) (StopsWith 1 IsConfigBytes bytes now)

-- line k with n members, or the end of the bytes, or why there is neither
abbrev pub IsNext : ℕ → ℕ → List ℕ → Result (Option LineCode) StatusCode → List ℕ → Option (List ℕ) → Type 0
IsNext n k bytes (Ok (Some l)) still now = (bytes ≡ line_bytes (plain_line l) ++ still) × IsLine n (plain_line l) × (k ≤ max_lines)
IsNext n k bytes (Ok None) still now = (bytes ≡ []) × IsShownAs now []
IsNext n k bytes (Err code) still now = IfSome (ending_of code) (StopsWith k (IsLineBytes n) bytes now)

pub record TakesFirst (before : Option (List ℕ)) (pending : List ℕ) (result : Result Settings StatusCode) (still : List ℕ) (after : Option (List ℕ)) : Type 0 where
  pub read : List ℕ
  pub gives : Gives before read after
  pub first : IsFirst (pending ++ read) result still after

pub record TakesNext (n k : ℕ) (before : Option (List ℕ)) (pending : List ℕ) (result : Result (Option LineCode) StatusCode) (still : List ℕ) (after : Option (List ℕ)) : Type 0 where
  pub read : List ℕ
  pub gives : Gives before read after
  pub next : IsNext n k (pending ++ read) result still after
