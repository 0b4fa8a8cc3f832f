-- The computed measures are what the words of chains say.
use Rattle.std.proofs.Common.{ℕ, T, subst, ⊎_elim, arith}
use Rattle.std.proofs.lemmas.Bool.{cases_lt}
use Rattle.books.specs.Plan.{Closed}
use Rattle.books.specs.Listing.{Listing, Sound, plan, holds}
use Rattle.books.specs.Theorems.{MeasuresRight, BooksClosed}
use Rattle.books.proofs.Distances.{distance_some, some_distance, distance_none, none_distance}
use Rattle.books.proofs.Depths.{out_depth_right, diameter_right, radius_right, radius_only, reach_only, reach_right, no_radius_right, no_radius_only}
use Rattle.books.proofs.Equality.{equal_same, same_equal}
use Rattle.books.proofs.Turning.{in_depth_right}

pub measures_right : MeasuresRight
measures_right p closed some =
    record {
      distance_is = λ u v d. (some_distance p u v d closed, distance_some p u v d closed some);
      no_distance = λ u v. (none_distance p u v closed some, distance_none p u v);
      reach_is = λ u v. (reach_right p closed some u v, reach_only p closed some u v);
      out_depth_is = out_depth_right p closed some;
      in_depth_is = in_depth_right p closed some;
      diameter_is = diameter_right p closed some;
      radius_is = λ site d. (radius_right p closed some site d, radius_only p closed some site d);
      no_radius = λ site. (no_radius_right p closed some site, no_radius_only p closed some site);
      equal_is = λ q in_q. (equal_same p q closed in_q, same_equal p q);
    }

-- no span leaves a number that is no closure, and none leads to one
pub book_closed : {limit : ℕ} (l : Listing) → Sound limit l → Closed (plan l)
book_closed l h u v t =
    (⊎_elim (λ i. i) (λ m. elim (subst (λ ss. T (holds ss v)) (h.outside u m) t) [ ]) (cases_lt u l.size), h.below u v t)

pub books_closed : BooksClosed
books_closed limit l h = (book_closed l h, omega (arith, h.some))
