-- Lists with the same members sort to the same list, and a list with more members to one at least as long. So it does not
-- matter in which order, or how often, rows are put into a list.
use mathlib.Core.Path.{◌≡◌, ap, subst}
use mathlib.Core.Logic.{◌⊎◌, inl, inr}
use mathlib.Core.List.{List, ◌∷◌, ◌++◌}
use mathlib.Core.Option.{none, some}
use Prim.Native.Nat.{◌≤◌, ◌<◌}
use lib.ListN.{length}
use borrow.Author.Tests.{lt-ltb, le-ltb}
use Rattle.esterel.specs.Listing.{Listed}
use Rattle.esterel.specs.inner.Rows.{Row}
use Rattle.esterel.specs.inner.CappedRows.{sorted_rows, cap_rows, collect_rows}
use Rattle.esterel.proofs.Order.{append_left, append_right, append_cases}
use Rattle.esterel.proofs.RowOrder.{sorted_rows_out, sorted_rows_in}
use Rattle.rows.proofs.Order.{sorted_in_order, sorted_same, shorter}

-- ---- members
-- every member of ts is one of us
abbrev pub Inside : List Row → List Row → Type 0
Inside ts us = (r : Row) → Listed r ts → Listed r us

pub record Same (ts us : List Row) : Type 0 where
  pub to : Inside ts us
  pub from : Inside us ts

pub same : (ts : List Row) → Same ts ts
same ts = record { to = λ r m. m; from = λ r m. m }

pub same_as : {ts us : List Row} → ts ≡ us → Same ts us
same_as {ts} e = subst (Same ts) e (same ts)

pub same_sym : {ts us : List Row} → Same ts us → Same us ts
same_sym s = record { to = s.from; from = s.to }

pub same_trans : {ts us vs : List Row} → Same ts us → Same us vs → Same ts vs
same_trans s t = record { to = λ r m. t.to r (s.to r m); from = λ r m. s.from r (t.from r m) }

pub same_sorted : (ts : List Row) → Same (sorted_rows ts) ts
same_sorted ts = record { to = λ r m. sorted_rows_out r ts m; from = λ r m. sorted_rows_in r ts m }

inside_append : (ts us vs : List Row) → Inside ts vs → Inside us vs → Inside (ts ++ us) vs
inside_append ts us vs f g r m = go (append_cases r ts us m)
  where
    go : Listed r ts ⊎ Listed r us → Listed r vs
    go (inl k) = f r k
    go (inr k) = g r k

pub same_append : (ts ts' us us' : List Row) → Same ts ts' → Same us us' → Same (ts ++ us) (ts' ++ us')
same_append ts ts' us us' s t = record {
  to = inside_append ts us (ts' ++ us') (λ r m. append_left r ts' us' (s.to r m)) (λ r m. append_right r ts' us' (t.to r m));
  from = inside_append ts' us' (ts ++ us) (λ r m. append_left r ts us (s.from r m)) (λ r m. append_right r ts us (t.from r m));
}

pub same_swap : (ts us : List Row) → Same (ts ++ us) (us ++ ts)
same_swap ts us = record {
  to = inside_append ts us (us ++ ts) (λ r m. append_right r us ts m) (λ r m. append_left r us ts m);
  from = inside_append us ts (ts ++ us) (λ r m. append_right r ts us m) (λ r m. append_left r ts us m);
}

pub same_assoc : (ts us vs : List Row) → Same ((ts ++ us) ++ vs) (ts ++ (us ++ vs))
same_assoc ts us vs = record {
  to = inside_append (ts ++ us) vs (ts ++ (us ++ vs)) (inside_append ts us (ts ++ (us ++ vs)) (λ r m. append_left r ts (us ++ vs) m) (λ r m. append_right r ts (us ++ vs) (append_left r us vs m))) (λ r m. append_right r ts (us ++ vs) (append_right r us vs m));
  from = inside_append ts (us ++ vs) ((ts ++ us) ++ vs) (λ r m. append_left r (ts ++ us) vs (append_left r ts us m)) (inside_append us vs ((ts ++ us) ++ vs) (λ r m. append_left r (ts ++ us) vs (append_right r ts us m)) (λ r m. append_right r (ts ++ us) vs m));
}

-- a row that is there already
pub same_again : (r : Row) (ts : List Row) → Listed r ts → Same (r ∷ ts) ts
same_again r ts m = record { to = λ u k. go u k; from = λ u k. inr k }
  where
    go : (u : Row) → Listed u (r ∷ ts) → Listed u ts
    go u (inl e) = rw e m
    go u (inr k) = k

-- ---- sorting
pub sorted_equal : {ts us : List Row} → Same ts us → sorted_rows ts ≡ sorted_rows us
sorted_equal {ts} {us} s = sorted_same ts us s.to s.from

pub sorted_length : (ts us : List Row) → Inside ts us → length (sorted_rows ts) ≤ length (sorted_rows us)
sorted_length ts us f =
    shorter (sorted_rows us) (sorted_rows ts) (sorted_in_order ts) (sorted_in_order us) (λ r m. sorted_rows_in r us (f r (sorted_rows_out r ts m)))

-- ---- lists of at most 64
pub cap_some : (ts : List Row) → length ts ≤ 64 → cap_rows ts ≡ some ts
unfolding cap_rows
cap_some ts h = rw (le-ltb 64 (length ts) h)

pub cap_none : (ts : List Row) → 64 < length ts → cap_rows ts ≡ none
unfolding cap_rows
cap_none ts h = rw (lt-ltb 64 (length ts) h)

pub collect_same : {ts us : List Row} → Same ts us → collect_rows ts ≡ collect_rows us
unfolding collect_rows
collect_same s = ap cap_rows (sorted_equal s)
