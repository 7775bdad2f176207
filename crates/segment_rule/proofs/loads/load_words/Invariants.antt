use Rattle.std.proofs.Common.{◌≡◌, ◌≤◌, length, take}
use Rattle.segment_rule.specs.Ruled.{TellsLoads}
use Rattle.segment_rule.proofs.loads.load_words.Given as goal

abbrev pub invariant-loading : goal.invariant-loading
invariant-loading l = record {
  table : l.seat.table_id ≡ l.fn.seat.table_id;
  slots : l.seat.me.1 ≡ l.fn.seat.me.1;
  few : l.i ≤ 8;
  eight : length l.words ≡ 8;
  told : TellsLoads 2 (take l.i l.words) l.fn.seat.me.0 l.seat.me.0;
}
