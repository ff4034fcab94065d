-- What a check of an archive tells, and how far it has come.
use Rattle.std.specs.List.{flat_map}
use Rattle.std.specs.Prelude.{Bool, Err, List, None, Ok, Option, Result, map, min, ℕ, ⊤, ◌++◌, ◌-◌, ◌^◌, ◌≡◌}
use Rattle.mar_types.specs.Epochs.{Epochs}
use Rattle.mar_cert.specs.Finalization.{Finalization}
use Rattle.mar_follower.specs.Chains.{AreFalling, AreTheChains}
use Rattle.mar_follower.specs.Segments.{AreParents, Committee, IsArchive, IsBelow, IsCertified, IsNamed, IsOfEpoch, IsRefusedBehind, PassInTurn, Segment, archive_bytes, count_blocks, lowest_before, lowest_of, segment_blocks}
use Rattle.mar_follower.specs.declared.check_end.CheckEnd.{CheckEnd}
use Rattle.mar_follower.specs.declared.check_end.CheckEnd.TheVariants.{Memory, Refused}
use Rattle.mar_follower.specs.declared.passed.Passed.{Passed}
use Rattle.mar_follower.specs.declared.report.Report.{Report}
use Rattle.mar_follower.specs.declared.why.Why.{Why}

abbrev pub committee_of : ℕ → Epochs → (ℕ → Bool) → (Finalization → Bool) → Committee
committee_of n epochs scoped verifies = record { members = n; epochs = epochs; scoped = scoped; verifies = verifies }

abbrev pub passed_of : Segment → Passed
passed_of s = record { top = s.top.height; lowest = lowest_of s; round = s.finalization.round }

-- The report is of these segments.
pub record IsReport (segments : List Segment) (report : Report) : Type 0 where
  pub passed : report.segments.items ≡ map passed_of segments
  pub counted : report.blocks ≡ min (count_blocks segments) (2 ^ 64 - 1)
  pub lowest : report.lowest ≡ lowest_before None segments

-- an accepted archive, and what it is of a chain: no height stands twice in it
pub record Accepts (committee : Committee) (bytes : List ℕ) (report : Report) : Type 0 where
  pub segments : List Segment
  pub archive : IsArchive committee bytes segments
  pub report_is : IsReport segments report
  pub the_chains : AreTheChains committee segments
  pub falling : AreFalling None (flat_map segment_blocks segments)

-- a refused one: the segments before it passed
pub record Refuses (committee : Committee) (bytes : List ℕ) (report : Report) (why : Why) : Type 0 where
  pub segments : List Segment
  pub behind : IsRefusedBehind committee bytes segments why
  pub report_is : IsReport segments report

abbrev pub EndsCheck : Committee → List ℕ → CheckEnd → Type 0
EndsCheck committee bytes (Refused report why) = Refuses committee bytes report why
EndsCheck committee bytes Memory = ⊤

-- WHAT IS RIGHT IS TOLD, unless memory ran out

-- of an archive of these segments
abbrev pub TellsArchive : List Segment → Result Report CheckEnd → Type 0
TellsArchive segments (Ok report) = IsReport segments report
TellsArchive segments (Err (Refused report why)) = ⊥
TellsArchive segments (Err Memory) = ⊤

-- of bytes that are refused for this behind these segments
abbrev pub TellsRefusal : List Segment → Why → Result Report CheckEnd → Type 0
TellsRefusal segments reason (Ok report) = ⊥
TellsRefusal segments reason (Err (Refused report why)) = IsReport segments report × (why ≡ reason)
TellsRefusal segments reason (Err Memory) = ⊤

-- These segments passed, and this is the rest.
pub record SoFar (committee : Committee) (bytes rest : List ℕ) (report : Report) : Type 0 where
  pub segments : List Segment
  pub spelled : bytes ≡ archive_bytes segments ++ rest
  pub passed : PassInTurn committee None segments
  pub report_is : IsReport segments report

-- a segment in the grammar passes, but for its grammar
pub record HasNoFlaw (committee : Committee) (above : Option ℕ) (s : Segment) : Type 0 where
  pub epoch : IsOfEpoch committee s
  pub certificate : IsCertified committee s
  pub payload : IsNamed s
  pub parents : AreParents s.top s.others
  pub order : IsBelow above s.top.height
