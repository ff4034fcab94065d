-- A store of which no call is armed failed.
use Rattle.std.proofs.Common.{[], sym, ◌≡◌, ◌&&◌, Bool, true, false, refl, ap, ◌∙◌}
use Rattle.mar_store.specs.Lost.{wreck_of}
use Rattle.mar_store.specs.Watch.{LostHeeds, Watch, after_call, is_due}
use Rattle.mar_store.specs.declared.Lost.{Lost}
use Rattle.mar_store.specs.declared.Lost.TheVariants.{Fault, Memory}
use Rattle.mar_epochs.specs.EpochArchives.{is_fault}

pub and_left : (p q : Bool) → (p && q) ≡ true → p ≡ true
and_left true q is = refl
and_left false q is = is

pub and_right : (p q : Bool) → (p && q) ≡ true → q ≡ true
and_right true q is = is
and_right false q is = absurd cc

pub still_armed : {W : Type 0} (left : W → Watch) (old : Watch) (l : Lost W) → LostHeeds left old l → (left (wreck_of l)).only_armed ≡ old.only_armed
still_armed left old (Fault w) heeds = ap (λ x. x.only_armed) heeds.same
still_armed left old (Memory w) heeds = ap (λ x. x.only_armed) heeds.1

pub none_due : {W : Type 0} (left : W → Watch) (old : Watch) (l : Lost W) → old.due ≡ [] → LostHeeds left old l → (left (wreck_of l)).due ≡ []
none_due left old (Fault w) none heeds = ap (λ x. x.due) heeds.same ∙ ap after_call none
none_due left old (Memory w) none heeds = ap (λ x. x.due) heeds.1 ∙ ap after_call none

pub for_memory : {W : Type 0} (left : W → Watch) (old : Watch) (l : Lost W) → old.due ≡ [] → LostHeeds left old l → old.only_armed ≡ true → is_fault l ≡ false
for_memory left old (Fault w) none heeds only = absurd (let clash : true ≡ false = sym (heeds.armed only) ∙ ap is_due none in cc)
for_memory left old (Memory w) none heeds only = refl
