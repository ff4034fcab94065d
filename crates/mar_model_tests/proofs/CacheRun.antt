-- The cache over three lines: a verified block is put, its sync finishes, its block is finalized.
use Rattle.std.proofs.Common.{◌≡◌, [], ◌∷◌, Some, None, refl, Contains, inl, IsTrue}
use Rattle.std.proofs.lemmas.List.Elements.{Contains-append_left}
use Rattle.mar_model.specs.Messages.{report_finalization, verified, get_verified}
use Rattle.mar_model.specs.Node.{Node}
use Rattle.mar_model.specs.Cached.{Cached, finalization_entry, verified_entry}
use Rattle.mar_model.specs.Event.{message_told, sync_finished, no_floor}
use Rattle.mar_model.specs.Cache.{AdvancesCache, is_synced}
use Rattle.mar_model.specs.Answers.{answers_of, to, sync_value, true_value, bytes_value}
use Rattle.std.proofs.Common.{lit<}
use Rattle.mar_model_tests.proofs.SmallFacts.{none_in, only}
use Rattle.mar_model_tests.proofs.SmallChain.{b1, f1, r1, config}
use Rattle.mar_model_tests.proofs.DeliveryRun.{n0}

-- after `verified`, after `sync 0`, after `final`
abbrev c1 : Node
c1 = record n0 {
  next_answer = 1;
  next_sync = 1;
  cache = record { held = verified_entry r1 b1 ∷ []; sure = []; may = verified_entry r1 b1 ∷ [] };
  cache_syncs = record { ticket = 0; entries = verified_entry r1 b1 ∷ []; answer = Some 0 } ∷ [];
}

abbrev c2 : Node
c2 = record c1 { cache = record { held = verified_entry r1 b1 ∷ []; sure = verified_entry r1 b1 ∷ []; may = verified_entry r1 b1 ∷ [] }; cache_syncs = [] }

abbrev c3 : Node
c3 = record c2 { cache = record { held = verified_entry r1 b1 ∷ finalization_entry f1 ∷ []; sure = verified_entry r1 b1 ∷ finalization_entry f1 ∷ []; may = verified_entry r1 b1 ∷ finalization_entry f1 ∷ [] } }

entries_put : AdvancesCache config (record n0 { next_answer = 1 }) (message_told (Some 0) (verified r1 b1)) no_floor c1
entries_put = record {
  kept = λ x there. inl there;
  nothing_else = λ x there. there;
  stays_sure = λ x sure held. absurd (none_in x sure);
  stays = λ x there. absurd (none_in x there);
  first_stays = λ r b e held. e;
  synced = λ x is held. absurd (not_synced x is);
  finished = λ x there held. absurd (none_in x there);
  lowest = refl;
  lowests = λ k there. Contains-append_left (0 ∷ []) (0 ∷ []) k there;
  own_lowest = (0, lit< tt, refl);
  cache_syncs = record {
    still = [];
    still_open = tt;
    started = c1.cache_syncs;
    started_open = (record { ticket = refl; answer = refl; covers = λ x has stays. has }, tt);
    are = refl;
  };
  witnessed = refl;
}
  where
    not_synced : (x : Cached) → IsTrue (is_synced (message_told (Some 0) (verified r1 b1)) (verified_entry r1 b1 ∷ []) x) → ⊥
    not_synced x is = cc

finishes : AdvancesCache config c1 (sync_finished 0) no_floor c2
finishes = record {
  kept = λ x there. inl there;
  nothing_else = λ x there. there;
  stays_sure = λ x sure held. absurd (none_in x sure);
  stays = λ x there. inl there;
  first_stays = λ r b e held. e;
  synced = λ x is held. absurd cc;
  finished = λ x there held. there;
  lowest = refl;
  lowests = λ k there. Contains-append_left (0 ∷ []) (0 ∷ []) k there;
  own_lowest = (0, lit< tt, refl);
  cache_syncs = record { still = []; still_open = tt; started = []; started_open = tt; are = refl };
  witnessed = refl;
}

kept_one : (x : Cached) → verified_entry r1 b1 ≡ x → Contains c3.cache.held x
kept_one x e = (0, lit< tt, e)

finalizes_too : AdvancesCache config c2 (message_told None (report_finalization f1)) no_floor c3
finalizes_too = record {
  kept = λ x there. inl there;
  nothing_else = λ x there. there;
  stays_sure = λ x sure held. held;
  stays = λ x there. inl (kept_one x (only _ _ there));
  first_stays = λ r b e held. e;
  synced = λ x is held. held;
  finished = λ x there held. absurd (none_in x there);
  lowest = refl;
  lowests = λ k there. Contains-append_left (0 ∷ []) (0 ∷ []) k there;
  own_lowest = (0, lit< tt, refl);
  cache_syncs = record { still = []; still_open = tt; started = []; started_open = tt; are = refl };
  witnessed = refl;
}

first_answer : answers_of config (record n0 { next_answer = 1 }) 0 (message_told (Some 0) (verified r1 b1)) no_floor ≡ to 0 (sync_value 0) ∷ []
first_answer = refl

second_answer : answers_of config c1 0 (sync_finished 0) no_floor ≡ to 0 true_value ∷ []
second_answer = refl

third_answer : answers_of config c2 0 (message_told (Some 1) (get_verified r1)) no_floor ≡ to 1 (bytes_value b1.encoded) ∷ []
third_answer = refl
