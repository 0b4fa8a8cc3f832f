use Rattle.std.proofs.Common.{◌+◌, ◌≤◌, length, get_or, ap, arith}
use Rattle.books.proofs.Laid.{row_inside}
use Rattle.books.proofs.stored.Adjacency.row.Goals as goal

inside : (c : goal.After-from-2) → (c.from.result ≤ c.from-2.result) × (c.from-2.result ≤ length c.as_slice.result.now)
inside c =
    let b = row_inside c.args.self.now c.from-u.result (omega (arith, ap length c.as_slice-starts.ensures.value)) in
    let from = ap (λ xs. get_or xs c.from-u.result 0) c.as_slice-starts.ensures.value in
    let to = ap (λ xs. get_or xs (c.from-u.result + 1) 0) c.as_slice-starts.ensures.value in
    let l = ap length c.as_slice.ensures.value in
    (omega (arith, b.0), omega (arith, b.1))

pub slice_bounds-result-count : goal.slice_bounds-result-count
slice_bounds-result-count c = omega (arith, (inside c).0, (inside c).1)

pub slice_bounds-result-start : goal.slice_bounds-result-start
slice_bounds-result-start c = omega (arith, (inside c).0, (inside c).1)

pub slice_bounds-result-end-2 : goal.slice_bounds-result-end-2
slice_bounds-result-end-2 c = omega (arith, (inside c).0, (inside c).1)
