-- The answer of trim, from what loading, trimming and the end gave. And what is written is a table: check accepts it, and it
-- reads as the trimmed statement. And 0 is no refusal of trim.
use mathlib.Core.Path.{◌≡◌, refl, sym, ap, ◌∙◌, subst}
use mathlib.Core.Bool.{Bool, true, false, cond, ◌||◌}
use mathlib.Core.List.{List, [], ◌∷◌, ◌++◌}
use Prim.Native.Nat.{ℕ, ◌≤◌}
use native.Mathlib.Omega.{arith}
use borrow.Author.Tests.{ltb-false}
use lib.Dec.{ltb}
use lib.ListN.{length, take, drop}
use lib.Seq.{take_at}
use Rattle.sets.proofs.Booleans.{or_neither}
use Rattle.esterel.specs.Statement.{Statement, size, depth, Valid}
use Rattle.esterel.specs.Trimming.{trimmed}
use Rattle.esterel.proofs.Validity.{valid_trimmed}
use Rattle.esterel.proofs.Growth.{size_trimmed}
use Rattle.esterel.proofs.Sizes.{size_positive}
use Rattle.std.specs.Prelude.{Result, Ok, Err}
use Rattle.table.specs.declared.Refusal.{Refusal}
use Rattle.table.specs.Bits.{Below}
use Rattle.table.specs.Outcomes.{Outcome, refusal, values, number_of, buffer_after}
use Rattle.table.specs.Reading.{Table, refused, holds, table_of, checked_outcome, check_in, check_of, deepest}
use Rattle.table.specs.inner.Loading.{loaded_of}
use Rattle.table.specs.inner.Places.{statement_of, Known}
use Rattle.table.specs.Writing.{write, Allowed}
use Rattle.table.proofs.Accepted.{accepted}
use Rattle.table.proofs.Loading.{load_refuses, load_holds, load_statement, load_loaded}
use Rattle.table.proofs.Refusals.{table_refusals, zero_accepted}
use Rattle.table.proofs.RoundTrip.{below_nodes, valid_ranged, read_written}
use Rattle.trim.specs.declared.Written.{Written}
use Rattle.trim.specs.Answers.{trimmed_outcome, values_for, trim_for, trim_in, buffer_in, trim_of, buffer_of}
use Rattle.trim.specs.inner.Parts.{Laid}
use Rattle.trim.specs.inner.Root.{Ends, EndFits, Finished}

-- ---- the answer

module _ (t old new : List ℕ) (c : Result ℕ Refusal) (h : (checked_outcome c ≡ check_of t) × (new ≡ loaded_of t old)) (out : List ℕ) where
  pub trim_refused : (w : Refusal) → c ≡ Err w → (trimmed_outcome (Err w) ≡ trim_of t (length out)) × (out ≡ buffer_of t out)
  unfolding trim_of buffer_of trim_in buffer_in trimmed_outcome
  trim_refused w e =
      let q = load_refuses t old new c h w e in
      (sym (ap (λ (T : Table). trim_in T (length out)) q), sym (ap (λ (T : Table). buffer_in T out) q))

  module _ (n : ℕ) (e : c ≡ Ok n) where
    pub some_node : 1 ≤ n
    some_node = let (p, held) = load_holds t old new c h n e in (accepted t n p held).header.some

    module _ (part : Laid) (work : List ℕ) (E : Ends (trimmed (statement_of new)) part work) where
      pub end_fields : length old ≡ 1024 → Known old → EndFits part work
      end_fields k known =
          let q : Statement = trimmed (statement_of new) in
          let L = load_loaded t old new c h n e k known in
          let few = size_trimmed (statement_of new) L.valid in
          let one = size_positive q in
          let small = L.few in
          let valid : Valid 0 q = valid_trimmed (statement_of new) L.shallow L.valid in
          record {
            within = omega (arith, E.count);
            not_all = λ z. omega (arith, E.count);
            fields = λ held. subst (Below 1024) (sym (E.stands held)) (below_nodes q (valid_ranged 0 q valid));
          }

      pub trim_done : (r : Result Written Refusal) (out' : List ℕ) → Finished n work part out r out' → (trimmed_outcome r ≡ trim_of t (length out)) × (out' ≡ buffer_of t out)
      unfolding Finished trim_of buffer_of trim_in buffer_in
      trim_done r out' F =
          let (p, held) = load_holds t old new c h n e in
          let got = F (trimmed p) (subst (λ (p : Statement). Ends (trimmed p) part work) (load_statement t old new c h n e) E) in
          (got.0 ∙ sym (ap (λ (T : Table). trim_in T (length out)) held), got.1 ∙ sym (ap (λ (T : Table). buffer_in T out) held))

-- ---- what was written

pub allowed_trimmed : (p : Statement) → Valid 0 p → depth p ≤ deepest → (n room : ℕ) (vs : List ℕ) → trim_for n (trimmed p) room ≡ values vs
    → Allowed (trimmed p) × (vs ≡ values_for n (trimmed p))
unfolding trim_for
allowed_trimmed p v d n room vs = go (ltb 1024 (size (trimmed p)) || ltb deepest (depth (trimmed p))) refl (ltb room (length (write (trimmed p))))
  where
    never : (why : ℕ) → refusal why ≡ values vs → ⊥
    never why e = let z : ◌≡◌ {A = ℕ} 0 1 = cc in omega arith

    go : (x : Bool) → (ltb 1024 (size (trimmed p)) || ltb deepest (depth (trimmed p))) ≡ x → (y : Bool)
        → cond x (refusal 12) (cond y (refusal 13) (values (values_for n (trimmed p)))) ≡ values vs → Allowed (trimmed p) × (vs ≡ values_for n (trimmed p))
    go true i y e = absurd (never 12 e)
    go false i true e = absurd (never 13 e)
    go false i false e =
        let small = or_neither (ltb 1024 (size (trimmed p))) (ltb deepest (depth (trimmed p))) i in (
          record {
            valid = valid_trimmed p d v;
            few = ltb-false 1024 (size (trimmed p)) small.0;
            deep = ltb-false deepest (depth (trimmed p)) small.1;
          },
          cc,
        )

-- the front of the buffer, as many bytes as the answer says
abbrev pub written_front : List ℕ → List ℕ → ℕ → List ℕ
written_front t out bytes = take bytes (buffer_of t out)

pub record WrittenTable (t out : List ℕ) (n bytes : ℕ) : Type 0 where
  pub count : ℕ
  pub statement : Statement
  pub source : table_of t ≡ holds count statement
  pub bytes_are : written_front t out bytes ≡ write (trimmed statement)
  pub reads : table_of (written_front t out bytes) ≡ holds n (trimmed statement)
  pub accepted_by_check : check_of (written_front t out bytes) ≡ values (n ∷ [])

-- the trimmed table, where it is not refused, is accepted by check and reads as the trimmed statement
pub trimmed_reads : (t out : List ℕ) (n bytes : ℕ) (more : List ℕ) → trim_of t (length out) ≡ values (n ∷ bytes ∷ more) → WrittenTable t out n bytes
unfolding trim_of buffer_of trim_in buffer_in buffer_after check_of check_in values_for
trimmed_reads t out n bytes more = go (table_of t) refl
  where
    go : (T : Table) → table_of t ≡ T → trim_in T (length out) ≡ values (n ∷ bytes ∷ more) → WrittenTable t out n bytes
    go (refused why) e h = absurd (let z : ◌≡◌ {A = ℕ} 0 1 = cc in omega arith)
    go (holds m p) e h =
        let a = accepted t m p e in
        let (allowed, vs) = allowed_trimmed p a.valid a.deep m (length out) (n ∷ bytes ∷ more) h in
        let count : n ≡ size (trimmed p) = cc in
        let long : bytes ≡ length (write (trimmed p)) = cc in
        let left : buffer_of t out ≡ write (trimmed p) ++ drop (length (write (trimmed p))) out =
        ap (λ (T : Table). buffer_in T out) e ∙ ap (λ (v : Outcome). buffer_after v (write (trimmed p)) out) h in
        let begins : written_front t out bytes ≡ write (trimmed p) =
        ap (take bytes) left ∙ take_at (write (trimmed p)) (drop (length (write (trimmed p))) out) bytes (sym long) in
        let reads : table_of (written_front t out bytes) ≡ holds n (trimmed p) =
        ap table_of begins ∙ read_written (trimmed p) allowed ∙ ap (λ (k : ℕ). holds k (trimmed p)) (sym count) in
        record {
          count = m;
          statement = p;
          source = e;
          bytes_are = begins;
          reads = reads;
          accepted_by_check = ap check_in reads;
        }

-- ---- refusals

for_refusals : (n : ℕ) (q : Statement) (room w : ℕ) → trim_for n q room ≡ refusal w → (12 ≤ w) × (w ≤ 13)
unfolding trim_for
for_refusals n q room w = go (ltb 1024 (size q) || ltb deepest (depth q)) (ltb room (length (write q)))
  where
    go : (x y : Bool) → cond x (refusal 12) (cond y (refusal 13) (values (values_for n q))) ≡ refusal w → (12 ≤ w) × (w ≤ 13)
    go true y e = let z : 12 ≡ w = cc in (omega arith, omega arith)
    go false true e = let z : 13 ≡ w = cc in (omega arith, omega arith)
    go false false e = absurd (let z : ◌≡◌ {A = ℕ} 0 1 = cc in omega arith)

-- "Check's refusals", 12 and 13
pub trim_refusals : (t : List ℕ) (room w : ℕ) → trim_of t room ≡ refusal w → (1 ≤ w) × (w ≤ 13)
unfolding trim_of trim_in
trim_refusals t room w = go (table_of t) refl
  where
    go : (T : Table) → table_of t ≡ T → trim_in T room ≡ refusal w → (1 ≤ w) × (w ≤ 13)
    go (refused v) e h = let same : v ≡ w = cc in let b = table_refusals t w (e ∙ ap refused same) in (b.0, omega arith)
    go (holds n p) e h = let b = for_refusals n (trimmed p) room w h in (omega arith, b.1)

-- so an entry for C that returns 0 has accepted
pub trim_accepted : (t : List ℕ) (room : ℕ) → number_of (trim_of t room) ≡ 0 → (vs : List ℕ) × (trim_of t room ≡ values vs)
trim_accepted t room = zero_accepted (trim_of t room) (λ w e. (trim_refusals t room w e).0)
