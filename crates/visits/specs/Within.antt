-- A book's limit is at most 1,024, so what it keeps under its limit it keeps under 1,024.
use Rattle.std.specs.Prelude.{ℕ, ◌≤◌}
use Rattle.std.proofs.Common.{arith}
use Rattle.books.specs.Listing.{Listing, Sound}

pub widened : {limit : ℕ} {l : Listing} → limit ≤ 1024 → Sound limit l → Sound 1024 l
widened c s = record { some = s.some; few = omega arith; outside = s.outside; below = s.below; short = s.short }
