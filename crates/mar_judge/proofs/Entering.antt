-- The entries of a batch as its messages are read.
use Rattle.std.proofs.Common.{List, [], ap, filter, get_or, length, map, subst, sym, take, ℕ, ◌++◌, ◌+◌, ◌<◌, ◌∙◌, ◌∷◌, ◌≡◌}
use Rattle.std.proofs.lemmas.List.{map-append, take_more}
use Rattle.std.proofs.lemmas.List.Elements.{filter-append}
use Rattle.mar_key.specs.Keys.{Annotation, Key, block_key, finalized_key, notarized_key}
use Rattle.mar_key.specs.PeerQueue.{PeerMessage, deliver, produce}
use Rattle.mar_model.specs.Config.{Config}
use Rattle.mar_model.specs.Judge.{is_delivery}
use Rattle.mar_judge.specs.Entered.{AreEntriesOf, Entry, IsEntryOf}
use Rattle.mar_judge.specs.Found.{IsPlacedAs, Place, final_at, finished, notarized_at}
use Rattle.mar_judge.specs.Groups.{KeepsClaims}
use Rattle.mar_judge.specs.Rules.{Claim, Rules}

module _ (rules : Rules) (config : Config) (old new : List (List Claim)) (keeps : KeepsClaims old new) where
  placed_kept : (key : Key) (bytes : List ℕ) (annotations : List Annotation) (place : Place) → IsPlacedAs rules config old key bytes annotations place
      → IsPlacedAs rules config new key bytes annotations place
  placed_kept (block_key c) bytes annotations (finished outcome answer) is = is
  placed_kept (finalized_key h) bytes annotations (finished outcome answer) is = is
  placed_kept (notarized_key r) bytes annotations (finished outcome answer) is = is
  placed_kept (block_key c) bytes annotations (final_at g p b) is = absurd is
  placed_kept (finalized_key h) bytes annotations (final_at g p b) is = (is.0, is.1, keeps g p _ is.2, is.3, is.4, is.5)
  placed_kept (notarized_key r) bytes annotations (final_at g p b) is = absurd is
  placed_kept (block_key c) bytes annotations (notarized_at g p rest) is = absurd is
  placed_kept (finalized_key h) bytes annotations (notarized_at g p rest) is = absurd is
  placed_kept (notarized_key r) bytes annotations (notarized_at g p rest) is = (is.0, keeps g p _ is.1, is.2, is.3)

  entry_kept : (m : PeerMessage) (e : Entry) → IsEntryOf rules config old m e → IsEntryOf rules config new m e
  entry_kept (deliver t key bytes annotations) e is = (is.0, is.1, placed_kept key bytes annotations e.place is.2)
  entry_kept (produce t key) e is = absurd is

  entries_more : (messages : List PeerMessage) (entries : List Entry) (m : PeerMessage) (e : Entry) → AreEntriesOf rules config old messages entries → IsEntryOf rules config new m e
      → AreEntriesOf rules config new (messages ++ m ∷ []) (entries ++ e ∷ [])
  entries_more [] [] m e are is = (is, tt)
  entries_more [] (x ∷ entries) m e are is = absurd are
  entries_more (k ∷ messages) [] m e are is = absurd are
  entries_more (k ∷ messages) (x ∷ entries) m e are is = (entry_kept k x are.0, entries_more messages entries m e are.1 is)

  -- a delivery's entry more
  pub entered_more : (before : List PeerMessage) (entries now : List Entry) (t : ℕ) (key : Key) (bytes : List ℕ) (annotations : List Annotation) (e : Entry)
      → AreEntriesOf rules config old (filter is_delivery before) entries → now ≡ entries ++ e ∷ [] → IsEntryOf rules config new (deliver t key bytes annotations) e
      → AreEntriesOf rules config new (filter is_delivery (before ++ deliver t key bytes annotations ∷ [])) now
  entered_more before entries now t key bytes annotations e are pushed is =
      subst (λ ms. AreEntriesOf rules config new ms now) (sym (filter-append is_delivery before (deliver t key bytes annotations ∷ [])))
      (subst (λ es. AreEntriesOf rules config new (filter is_delivery before ++ deliver t key bytes annotations ∷ []) es) (sym pushed)
      (entries_more (filter is_delivery before) entries (deliver t key bytes annotations) e are is))

-- the messages before this one, and this one
pub more_messages : {M : Type 0} (view : M → PeerMessage) (messages : List M) (i : ℕ) (m : M) → i < length messages → m ≡ get_or messages i m
    → map view (take i messages) ++ view m ∷ [] ≡ map view (take (i + 1) messages)
more_messages view messages i m within is =
    let more = take_more messages i m within in
    sym (ap (map view) more ∙ map-append view (take i messages) (get_or messages i m ∷ []) ∙ ap (λ x. map view (take i messages) ++ view x ∷ []) (sym is))
