-- Every point of the table holds: antt computes both sides. Assumes nothing.
use mathlib.Core.Path.{refl}
use native.Mathlib.Decide.{ℕ_discrete}
use lib.Ieee.{to_bits, of_int, add, sub, mul, div, lt, of_bits, round, sum, units, odd, size, climb, span, of_fields, neg}
use Rattle.root.specs.Sqrt.{sqrt_of}
use Rattle.rng.specs.Xoshiro.{draw_of, result_of, next_of}
use Rattle.rng.specs.Uniform.{uniform_of}
use Rattle.geometry.specs.Range.{range}
use Rattle.geometry.specs.Radix.{volume, coords_of, index_of}
use Rattle.geometry.specs.Steps.{total, fwd_of, bwd_of, moved_of, parity_of}
use Rattle.geometry.specs.Order.{sites_of}
use Rattle.folds.specs.Folds.{fold_to}
use Rattle.stairs.specs.Line.{dot, line_dist}
use Rattle.stairs.specs.Staircase.{differs, stepped_to, left_of, first_min, least_of, best_of, step_along, place_at, step_at, steps_to, staircase_of}
use Rattle.stairs.specs.Codes.{code_of}
use Rattle.worked_examples.specs.Points.{PointsHold}

pub points_hold : PointsHold
unfolding coords_of parity_of total fwd_of bwd_of moved_of index_of sites_of range volume ℕ_discrete to_bits of_int sqrt_of draw_of result_of next_of uniform_of add sub mul div lt of_bits round sum units odd size climb span of_fields neg fold_to dot line_dist differs stepped_to left_of first_min least_of best_of step_along place_at step_at steps_to staircase_of code_of
points_hold = refl
