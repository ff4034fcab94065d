-- Events that write nothing.
use Rattle.std.proofs.Common.{◌≡◌, inl, IsTrue, Some, None, ℕ, ◌-◌, max, List, [], ◌++◌, drop, Bool, true, false, ◌&&◌, not, ◌==◌, nat_lt, refl, sym, ◌∙◌, ap, subst, arith, append-nil}
use Rattle.std.specs.List.{list_any}
use Rattle.mar_cert.specs.Block.{Block}
use Rattle.mar_key.specs.Processed.{height_of}
use Rattle.mar_store.specs.Kept.{At, Kept, has_height, value_at}
use Rattle.mar_model.specs.Event.{Event, no_floor, own_writes, storing_of}
use Rattle.mar_model.specs.Held.{Seen}
use Rattle.mar_model.specs.Node.{Node, OpenSync}
use Rattle.mar_model.specs.Promise.{Waiting, node_of}
use Rattle.mar_model.specs.Step.{CertificatesFrom, EntersAt, KeepsFrom, Writes, finished_position, without_finished}

pub KeepsFrom-same : {T : Type 0} (bound : ℕ) (kept : Kept (At T)) → KeepsFrom bound kept kept
KeepsFrom-same bound kept = record { held = λ h v low is. is; sure = λ h v is has. is }

pub max-zero : (k : ℕ) → max k 0 ≡ k
max-zero k = omega arith

-- a height that was held before didn't enter
pub not_entered : (above held own : Bool) → (above && (held && (not held && not own))) ≡ false
not_entered true true own = refl
not_entered true false own = refl
not_entered false held own = refl

-- nothing is written and no block entered; `finished` is how many writes the sync that finished covers
pub Writes-none : {P E : Type 0} (a m : Seen P E) (e : Event) (buffer : List Block) (waiting waiting' : Waiting) → own_writes (node_of a buffer waiting) (storing_of (node_of a buffer waiting) e) no_floor ≡ [] → m.held.blocks.held ≡ a.held.blocks.held → m.held.writes.covered ≡ max a.held.writes.covered (finished_position a.held.writes.syncs e) → m.held.writes.uncovered ≡ drop (m.held.writes.covered - a.held.writes.covered) a.held.writes.uncovered → m.held.writes.syncs ≡ without_finished e a.held.writes.syncs → (w : Writes (node_of a buffer waiting) e no_floor (node_of m buffer waiting')) × (w.repaired ≡ []) × (w.blocking ≡ 0)
Writes-none a m e buffer waiting waiting' none held covered uncovered syncs = (
  record {
    repaired = [];
    by_repair = λ h. sym (subst (λ hs. (nat_lt (height_of m.held.processed) h && (has_height hs h && (not (has_height a.held.blocks.held h) && not (list_any (λ k. k == h) (own_writes (node_of a buffer waiting) (storing_of (node_of a buffer waiting) e) no_floor ++ []))))) ≡ false) (sym held) (not_entered (nat_lt (height_of m.held.processed) h) (has_height a.held.blocks.held h) (list_any (λ k. k == h) (own_writes (node_of a buffer waiting) (storing_of (node_of a buffer waiting) e) no_floor ++ []))));
    each_once = λ h. omega arith;
    blocking = 0;
    within = omega arith;
    at_least = omega arith;
    covered = covered ∙ sym (max-zero (max a.held.writes.covered (finished_position a.held.writes.syncs e)));
    uncovered = uncovered ∙ sym (ap (λ ws. drop (m.held.writes.covered - a.held.writes.covered) (a.held.writes.uncovered ++ (ws ++ []))) none ∙ ap (drop (m.held.writes.covered - a.held.writes.covered)) (append-nil a.held.writes.uncovered));
    syncs = syncs;
  },
  refl,
  refl,
)

-- and no sync of both archives finished
pub Writes-alike : {P E : Type 0} (a m : Seen P E) (e : Event) (buffer : List Block) (waiting waiting' : Waiting) → own_writes (node_of a buffer waiting) (storing_of (node_of a buffer waiting) e) no_floor ≡ [] → m.held.blocks.held ≡ a.held.blocks.held → m.held.writes.covered ≡ a.held.writes.covered → m.held.writes.uncovered ≡ a.held.writes.uncovered → m.held.writes.syncs ≡ a.held.writes.syncs → finished_position a.held.writes.syncs e ≡ 0 → without_finished e a.held.writes.syncs ≡ a.held.writes.syncs → (w : Writes (node_of a buffer waiting) e no_floor (node_of m buffer waiting')) × (w.repaired ≡ []) × (w.blocking ≡ 0)
Writes-alike a m e buffer waiting waiting' none held covered uncovered syncs position stay =
    Writes-none a m e buffer waiting waiting' none held
    (covered ∙ sym (ap (max a.held.writes.covered) position ∙ max-zero a.held.writes.covered))
    (uncovered ∙ sym (ap (λ k. drop (k - a.held.writes.covered) a.held.writes.uncovered) covered ∙ ap (λ k. drop k a.held.writes.uncovered) (minus-same a.held.writes.covered)))
    (syncs ∙ sym stay)
  where
    minus-same : (k : ℕ) → k - k ≡ 0
    minus-same k = omega arith

-- the writes are as they were
pub Writes-same : {P E : Type 0} (a m : Seen P E) (e : Event) (buffer : List Block) (waiting : Waiting) → own_writes (node_of a buffer waiting) (storing_of (node_of a buffer waiting) e) no_floor ≡ [] → m.held.blocks.held ≡ a.held.blocks.held → m.held.writes ≡ a.held.writes → ((syncs : List OpenSync) → finished_position syncs e ≡ 0) → ((syncs : List OpenSync) → without_finished e syncs ≡ syncs) → (w : Writes (node_of a buffer waiting) e no_floor (node_of m buffer waiting)) × (w.repaired ≡ []) × (w.blocking ≡ 0)
Writes-same a m e buffer waiting none held same position syncs =
    Writes-alike a m e buffer waiting waiting none held (ap (λ w. w.covered) same) (ap (λ w. w.uncovered) same) (ap (λ w. w.syncs) same) (position a.held.writes.syncs) (syncs a.held.writes.syncs)

-- no certificate entered
pub Certificates-same : {P E : Type 0} (a m : Seen P E) (e : Event) (buffer : List Block) (waiting : Waiting) → m.held.certs ≡ a.held.certs → CertificatesFrom (node_of a buffer waiting) e (node_of m buffer waiting)
Certificates-same a m e buffer waiting same = record {
  entered = λ h f is. inl (subst (λ k. value_at k.held h ≡ Some f) same is);
  own = λ s f stores told none. inl (subst (λ k. value_at k.held s.height ≡ None) (sym same) none);
}

-- nothing entered the archives
pub EntersAt-same : (heights : List ℕ) (n n' : Node) → n'.blocks.held ≡ n.blocks.held → n'.certs.held ≡ n.certs.held → EntersAt heights n n'
EntersAt-same heights n n' blocks certs = record {
  blocks = λ h has. inl (subst (λ xs. IsTrue (has_height xs h)) blocks has);
  certs = λ h has. inl (subst (λ xs. IsTrue (has_height xs h)) certs has);
}

-- others may wait beside it
pub Certificates-beside : {P E : Type 0} (n : Node) (m : Seen P E) (e : Event) (buffer : List Block) (waiting waiting' : Waiting) → CertificatesFrom n e (node_of m buffer waiting) → CertificatesFrom n e (node_of m buffer waiting')
Certificates-beside n m e buffer waiting waiting' from = record { entered = from.entered; own = from.own }
