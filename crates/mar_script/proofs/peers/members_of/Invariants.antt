use Rattle.std.proofs.Common.{List, decimal, map, take, ℕ, ◌≡◌}
use Rattle.mar_script.specs.Script.{ArePeers}
use Rattle.mar_script.specs.Words.{words_of}
use Rattle.mar_script.proofs.peers.members_of.Given as goal

abbrev pub invariant-loop-word : goal.invariant-loop-word
invariant-loop-word l = record {
  are : ArePeers l.members.items;
  found : words_of (take l.word-index l.words) ≡ map decimal l.members.items;
  only : (ps : List ℕ) → ArePeers ps → words_of l.words ≡ map decimal ps → l.members.items ≡ take l.word-index ps;
}
