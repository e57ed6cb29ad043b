-- `lanes::update` meets its contract: one part after the other. Assumes nothing.
use mathlib.Core.Path.{sym, ap₂, ◌∙◌}
use Prim.Native.Nat.{◌-◌, ◌%◌}
use native.Mathlib.Omega.{arith}
use lib.ListN.{length, drop, length-take, length-drop}
use lib.Seq.{take_all}
use Rattle.crc64.specs.Crc.{run}
use Rattle.crc64.proofs.Run.{run-split}
use Rattle.crc64.proofs.lanes.update.Goals as goal

pub slice_bounds-four_lanes-end : goal.slice_bounds-four_lanes-end
slice_bounds-four_lanes-end c = simp length-take (omega arith)

pub four_lanes-x-requires : goal.four_lanes-x-requires
four_lanes-x-requires c = record {
  tables = c.requires;
  s_len = simp length-take (omega arith);
  in_bounds = simp length-take (omega arith);
}

pub returns : goal.returns
returns c =
    let g = c.args in
    let s = g.s.now in
    let m = length s - length s % 32 in
    c.update-2.ensures
    ∙ ap₂ run c.four_lanes-x.ensures (take_all (length s - m) (drop m s) (simp length-drop (omega arith)))
    ∙ sym (run-split g.register s m)
