use Rattle.std.proofs.Common.{List, Option, true, ◌≡◌, ◌^◌}
use Rattle.mar_key.specs.Keys.{Call}
use Rattle.mar_model.specs.Answers.{Sent, TicketAnswer}
use Rattle.mar_model.specs.Promise.{heard_with}
use Rattle.mar_model.specs.Scene.{Standing, Window}
use Rattle.mar_repair.specs.Walk.{OnlyStores, Walks, at_tip, unheld}
use Rattle.mar_repair.proofs.walking.fill_gaps.Given as goal

abbrev pub invariant-walk : goal.invariant-walk
invariant-walk g l = record {
  intact : (g.S.HoldsCache.held l.stores).intact ≡ true;
  lent : g.T.Tips.lent l.tips ≡ g.T.Tips.lent l.initial.tips;
  kept : OnlyStores (g.S.HoldsCache.held l.initial.stores) (g.S.HoldsCache.held l.stores);
  walked : (life : Window) (standing : Standing) (asks : Option (List Call)) (sends : Option (List Sent)) (answers : List TicketAnswer) → Walks g.V.Variant.inner (g.B.Finds.blocks l.buffer)
      (at_tip (g.S.HoldsCache.held l.initial.stores) life (g.T.Tips.last l.initial.tips) standing (heard_with (g.T.Tips.told l.initial.tips) asks sends answers))
      (at_tip (g.S.HoldsCache.held l.stores) life (g.T.Tips.last l.tips) standing (heard_with (g.T.Tips.told l.tips) asks sends answers));
}

abbrev pub decreases-walk : goal.decreases-walk
decreases-walk g l = unheld (2 ^ 64) (g.S.HoldsCache.held l.stores).blocks.held
