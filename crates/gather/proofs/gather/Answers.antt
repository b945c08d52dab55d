use Rattle.std.proofs.Common.{ℕ, ◌<◌, ◌≡◌, get_or, ap, sym, ◌∙◌, arith}
use native.Mathlib.Nat.{mod-lt}
use lib.Ieee.{Float, nan}
use Rattle.stairs.specs.Quarks.{offsets_of}
use Rattle.contraction.specs.Baryon.{baryon_of}
use Rattle.gauge.specs.Field.{link_of}
use Rattle.gauge.proofs.TimeLine.{site_at_lem}
use Rattle.geometry.proofs.Range.{length-listed, listed_at}
use Rattle.geometry.proofs.Shape.{axis_in}
use Rattle.slices.proofs.Laws.{Loops, loops_next, loops_done, grid_next, grid_done}
use Rattle.gather.proofs.gather.Goals as goal
use Rattle.gather.proofs.gather.Goals.{After-slice_loops}

-- the loop value at each site
abbrev loop_value : After-slice_loops → ℕ → Float
loop_value c = let q = c.args in baryon_of q.lattice.now.extents.d (link_of q.lattice.now.extents.d q.lattice.now.links.now) q.t_len (offsets_of q.quarks)

-- the loop values of this slice
filled : (c : After-slice_loops) → Loops c.args.lattice.now.extents.d (loop_value c) c.loop-t.t c.slice_loops.new.loops
unfolding baryon_of
filled c =
    let e = c.args.lattice.now.extents in
    record {
      len = rw c.slice_loops.ensures (length-listed _ _);
      each = λ k h. rw (c.slice_loops.ensures, c.staircases-paths.ensures) (listed_at _ nan _ k h ∙ ap (loop_value c) (sym (site_at_lem e.d (axis_in _ e.fits 0 (omega arith)) c.loop-t.t k h)));
    }

pub loop-t-preserved : goal.loop-t-preserved
loop-t-preserved c =
    let q = c.args in
    let e = q.lattice.now.extents in
    let loops = filled (goal.at.loop-t-preserved c).After-slice_loops in
    let t = c.loop-t in
    let some : 0 < get_or e.d 0 0 = omega (arith, c.loop-t-test.true) in (
      loops_next e.d _ q.w t.t t.invariant.0 loops c.total-sum.ensures,
      grid_next e.d _ q.densities.now.numbers.now q.t_len q.densities.now.count q.grid.now e.fits t.t (t.auto.grid ∙ c.requires.cells) loops (mod-lt _ some) t.invariant.1 (rw c.requires.same at c.slice_cells.ensures),
    )

pub returns : goal.returns
returns c =
    let e : c.loop-t.t ≡ get_or c.args.lattice.now.extents.d 0 0 = omega arith in
    record { loops = loops_done _ _ _ e c.loop-t.invariant.0; grid = grid_done _ _ _ _ _ _ e c.loop-t.invariant.1 }
