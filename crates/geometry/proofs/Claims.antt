-- The claims of specs/Claims.antt.
use native.Mathlib.Omega.{arith}
use Rattle.geometry.specs.Claims.{FitsIsShape, SitesAreBounded, CoordsInverse, NeighboursInverse, ParityFlips, SitesInOrder}
use Rattle.geometry.proofs.Shape.{fits_shape, shape_fits, volume_high}
use Rattle.geometry.proofs.Radix.{coords_within, index_below, coords_index, index_coords}
use Rattle.geometry.proofs.Steps.{moved_flips}
use Rattle.geometry.proofs.Neighbour.{bwd_fwd, fwd_bwd}
use Rattle.geometry.proofs.Order.{count_sites, site_at_lem, nth_rises}
use Rattle.geometry.proofs.Members.{site_inside, inside_site, sites_once}

pub fits_is_shape : FitsIsShape
fits_is_shape = record { passes = shape_fits; passed = fits_shape }

pub sites_are_bounded : SitesAreBounded
sites_are_bounded = volume_high

pub coords_inverse : CoordsInverse
coords_inverse = record { within = λ d n h. coords_within d n (omega arith); index_coords = index_coords; below = index_below; coords_index = coords_index }

pub neighbours_inverse : NeighboursInverse
neighbours_inverse = record { bwd_fwd = bwd_fwd; fwd_bwd = fwd_bwd }

pub parity_flips : ParityFlips
parity_flips d n mu k below axis = moved_flips d (omega arith) n mu axis k

pub sites_in_order : SitesInOrder
sites_in_order = record { inside = site_inside; all = inside_site; once = sites_once; count = count_sites; nth = site_at_lem; rises = nth_rises }
