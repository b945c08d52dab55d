-- What accepted calls leave in their lists.
use mathlib.Core.Path.{◌≡◌, sym, ◌∙◌}
use lib.Ieee.{Float, nan}
use mathlib.Core.List.{List}
use Rattle.std.proofs.Common.{Option, None, Some, Ok, Result}
use Rattle.rows.specs.declared.Refusal.{Refusal}
use Rattle.rows.specs.Refusals.{answered, unless}
use Rattle.geometry.specs.Radix.{volume}
use Rattle.geometry.proofs.Range.{listed_at}
use Rattle.gauge.specs.Field.{link_of}
use Rattle.gauge.proofs.Lists.{links_of}
use Rattle.strength.specs.Densities.{density_of}
use Rattle.stout.proofs.Laws.{stout_nine}
use Rattle.fields.specs.Calls.{Filled, smeared, smear_refusal, smeared_list, density_list}
use Rattle.fields.specs.Claims.{SmearReadsOneList, SmearHoldsStoutLinks, ListHoldsDensity}

-- an accepted call has stored what it was to store
filled_new : (refusal : Option Refusal) (new old exit : List Float) (r : Result (Unit {0}) Refusal) → Filled refusal new old r exit → r ≡ Ok tt → exit ≡ new
unfolding answered unless
filled_new None new old exit r call ok = call.list
filled_new (Some refusal) new old exit r call ok = cc call.answer

pub smear_reads_one_list : SmearReadsOneList
unfolding smear_refusal
smear_reads_one_list d rho l old other same r s exit exit' one two =
    let rows : smear_refusal d rho l old ≡ smear_refusal d rho l other = rw same in (
      one.answer ∙ rw rows (sym two.answer),
      λ ok. filled_new _ _ _ _ _ one ok ∙ sym (filled_new _ _ _ _ _ two (two.answer ∙ rw (← rows) (sym one.answer ∙ ok))),
    )

pub smear_holds_stout_links : SmearHoldsStoutLinks
unfolding smeared_list
smear_holds_stout_links d rho l old r exit call ok mu n axis below =
    rw (filled_new _ _ _ _ _ call ok) (links_of d (smeared d (link_of d l) rho) (λ mu n. stout_nine d (link_of d l) 12 rho n mu) mu n axis below)

pub list_holds_density : ListHoldsDensity
unfolding density_list
list_holds_density d kind l old r exit call ok n below =
    rw (filled_new _ _ _ _ _ call ok) (listed_at (density_of d (link_of d l) kind) nan (volume d) n below)
