-- A state with other requests open is the same but for these.
use Rattle.std.proofs.Common.{Err, List, Ok, OnErr, Option, Result, [], ap, refl, subst, sym, true, ℕ, ◌∙◌, ◌≡◌}
use Rattle.std.specs.Result.{is_err}
use Rattle.mar_key.specs.Asked.{Asked, asked_after}
use Rattle.mar_key.specs.Keys.{Call}
use Rattle.mar_model.specs.Chain.{Chain}
use Rattle.mar_model.specs.Config.{Config}
use Rattle.mar_script.specs.Accounts.{AccountsFor, luck_after}
use Rattle.mar_script.specs.Plays.{IsLawfulLine, IsSmallLine, Plays}
use Rattle.mar_script.specs.Script.{Line}
use Rattle.mar_replay.specs.Playing.{HasLuck, HasSmallBlocks, IsOpenAs, IsSetAs, Turned, account_in}
use Rattle.mar_replay.specs.Turn.{open_in, remains_in, state_of, state_with, with_open}
use Rattle.mar_replay.specs.declared.play.State.{State as StateCode}
use Rattle.mar_replay.specs.declared.play.State.TheVariants as state

-- what holds in any case holds where a call failed
pub err_any : {T E : Type 0} (r : Result T E) (P : Type 0) → P → OnErr r P
err_any (Ok x) P p = tt
err_any (Err e) P p = p

-- what is said of a failure, where there was one
pub err_seen : {T E : Type 0} (r : Result T E) (P : Type 0) → OnErr r P → true ≡ is_err r → P
err_seen (Ok x) P told seen = absurd cc
err_seen (Err e) P told seen = told

module _ {H R : Type 0} where
  state_open : (asked opened : List Asked) (s : StateCode H R) → state_with asked (with_open opened s) ≡ state_with asked s
  state_open asked opened (state.Running seen buffer pending) = refl
  state_open asked opened (state.Stopped left luck) = refl

  remains_open : (opened : List Asked) (s : StateCode H R) → remains_in (with_open opened s) ≡ remains_in s
  remains_open opened (state.Running seen buffer pending) = refl
  remains_open opened (state.Stopped left luck) = refl

  set_open : (config : Config) (opened : List Asked) (s : StateCode H R) → IsSetAs config s → IsSetAs config (with_open opened s)
  set_open config opened (state.Running seen buffer pending) set = set
  set_open config opened (state.Stopped left luck) set = set

  small_open : (opened : List Asked) (s : StateCode H R) → HasSmallBlocks s → HasSmallBlocks (with_open opened s)
  small_open opened (state.Running seen buffer pending) small = small
  small_open opened (state.Stopped left luck) small = small

  lucky_open : (luck : ℕ) (opened : List Asked) (s : StateCode H R) → HasLuck luck s → HasLuck luck (with_open opened s)
  lucky_open luck opened (state.Running seen buffer pending) has = has
  lucky_open luck opened (state.Stopped left now) has = has

  pub open_same : (s : StateCode H R) → s ≡ with_open (open_in s) s
  open_same (state.Running seen buffer pending) = refl
  open_same (state.Stopped left luck) = refl

  -- what was asked is taken in where it is all taken in
  open_after : (asks : List Call) (before done : StateCode H R) (opened : List Asked) → IsOpenAs (open_in before) done → opened ≡ asked_after (open_in done) [] asks → state_with (asked_after (open_in before) [] asks) done ≡ state_of (with_open opened done)
  open_after asks before (state.Running seen buffer pending) opened keeps all = ap (λ asked. state_with {H = H} {R = R} asked (state.Running seen buffer pending)) (sym (all ∙ ap (λ asked. asked_after asked [] asks) keeps))
  open_after asks before (state.Stopped left luck) opened keeps all = refl

  -- A line that was done, and of what it asked a part was taken in.
  module _ {U : Type 0} (config : Config) (c d : StateCode H R) (l : Line) (sunk sunk' : Option (List ℕ)) (written : Result U _) (turned : Turned config c l sunk d sunk' written) where
    same : d ≡ with_open turned.takes_in.opened turned.done
    same = turned.takes_in.same

    remains_same : remains_in d ≡ remains_in turned.done
    remains_same = ap remains_in same ∙ remains_open turned.takes_in.opened turned.done

    -- what is open behind it
    abbrev pub opened_now : List Asked
    opened_now = asked_after (open_in c) [] turned.out.made.asks

    pub done_set : IsSetAs config c → IsSetAs config d
    done_set set = subst (IsSetAs config) (sym same) (set_open config turned.takes_in.opened turned.done (turned.plays.set set))

    pub done_small : IsSmallLine l → HasSmallBlocks c → HasSmallBlocks d
    done_small line small = subst HasSmallBlocks (sym same) (small_open turned.takes_in.opened turned.done (turned.plays.small line small))

    pub done_lucky : (luck : ℕ) → HasLuck luck c → HasLuck (luck_after luck l turned.out.fault) d
    done_lucky luck has = subst (HasLuck (luck_after luck l turned.out.fault)) (sym same) (lucky_open (luck_after luck l turned.out.fault) turned.takes_in.opened turned.done (turned.plays.lucky luck has))

    -- what the stores tell behind it
    pub done_counted : (luck : ℕ) → AccountsFor (account_in luck c) l turned.out.fault (account_in (luck_after luck l turned.out.fault) d)
    done_counted luck = subst (λ r. AccountsFor (account_in luck c) l turned.out.fault (record { watches = r.watches; luck = luck_after luck l turned.out.fault })) (sym remains_same) (record { luck = refl; calls = turned.plays.calls })

    pub done_plays : IsSetAs config c → (luck : ℕ) → HasLuck luck c → (chain : Chain) (k : ℕ) → IsLawfulLine config chain k (state_of c) l → Plays config chain k (account_in luck c) (state_of c) l turned.out (state_with opened_now d)
    done_plays set luck has chain k lawful = subst (Plays config chain k (account_in luck c) (state_of c) l turned.out) (sym (ap (state_with opened_now) same ∙ state_open opened_now turned.takes_in.opened turned.done)) (turned.plays.plays set luck has chain k lawful)

    -- and where memory lasted, that is the state
    pub done_open : (u : U) → written ≡ Ok u → state_with opened_now d ≡ state_of d
    done_open u is = ap (state_with opened_now) same ∙ (state_open opened_now turned.takes_in.opened turned.done ∙ (open_after turned.out.made.asks c turned.done turned.takes_in.opened turned.plays.opened (turned.takes_in.all u is) ∙ ap state_of (sym same)))
