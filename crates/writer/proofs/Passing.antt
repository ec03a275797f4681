-- The steps of the pass that writes a statement: what its text still lacks, what the next step asks, and what was written in the end.
use Prim.Native.Nat.{ℕ, ◌+◌, ◌-◌, ◌≤◌, ◌<◌}
use mathlib.Core.Path.{◌≡◌, refl, sym, ap, ◌∙◌, subst}
use mathlib.Core.Bool.{Bool, true, false}
use mathlib.Core.List.{List, [], ◌∷◌, ◌++◌}
use lib.ListN.{get_or}
use Rattle.table.specs.Reading.{kind_of_node, operand_of}
use Rattle.table.specs.inner.Places.{statement_at}
use Rattle.text.specs.Grammar.{Level}
use Rattle.writer.specs.inner.Texts.{enclosed_at, first_level, second_level, has_two, leaf_text, head_text, between_text, tail_text}
use Rattle.writer.specs.inner.Putting.{Pen, Room, Put, Readable, text_there, Writable, Wrote}
use Rattle.writer.proofs.Putting.{Pieces, pieces, room_same, room_first, room_next, put_same, put_then}
use Rattle.writer.proofs.Words.{end_alone}
use Rattle.writer.proofs.Standing.{stands_inside, stands_deep, leaf_here, parent_here, Leaf, first_text, second_text, Parent, Pair}

-- ---- What is still to come of a text

-- a text was begun by a pen, and the rest of it is to be put
record Coming (pen : Pen) (text : List ℕ) (pen' : Pen) (rest : List ℕ) : Type 0 where
  room : Room pen' rest
  ended : (pen'' : Pen) → Put pen' rest pen'' → Put pen text pen''

module _ {pen : Pen} {text : List ℕ} where
  all_coming : Room pen text → Coming pen text pen text
  all_coming r = record { room = r; ended = λ pen'' h. h }

  -- the first piece was put
  coming_next : {pen₁ pen₂ : Pen} {rest first more : List ℕ} → Pieces rest first more → Coming pen text pen₁ rest → Put pen₁ first pen₂
      → Coming pen text pen₂ more
  coming_next e s h = record { room = room_next e s.room h; ended = λ pen'' j. s.ended pen'' (put_then e h j) }

-- ---- The statement at a node, of the kind k and with the operand o

module _ {l : Level} {left : ℕ} {xs : List ℕ} {at : ℕ} {pen : Pen} (w : Writable l left xs at pen) where
  pub inside : at < 1024
  inside = stands_inside w.readable

  pub deep : 1 ≤ left
  deep = stands_deep w.readable

  module _ {k : ℕ} (kind : k ≡ kind_of_node (get_or xs at 0)) where
    abbrev node : ℕ
    node = get_or xs at 0

    abbrev o : ℕ
    o = operand_of node

    -- ---- Without children
    module _ (low : k < 5) where
      abbrev leaf : Leaf l left xs at k o
      leaf = leaf_here l w.readable k o kind refl low

      leaf_is : text_there l left xs at ≡ leaf_text (kind_of_node node) o
      leaf_is = leaf.text ∙ ap (λ (x : ℕ). leaf_text x o) kind

      pub leaf_room : Room pen (leaf_text (kind_of_node node) o)
      leaf_room = room_same leaf_is w.room

      pub wrote_leaf : {pen' : Pen} → Put pen (leaf_text (kind_of_node node) o) pen' → Wrote l left xs at (at + 1) pen pen'
      wrote_leaf h = record { passed = sym leaf.next; put = put_same leaf_is h }

    -- ---- With children
    module _ (high : 5 ≤ k) where
      abbrev over : Parent l left xs at k o
      over = parent_here l w.readable k o kind refl high

      abbrev text : List ℕ
      text = text_there l left xs at

      module _ {b : Bool} (enclosed : b ≡ enclosed_at l k) where
        head_is : head_text (kind_of_node node) o b ≡ head_text k o (enclosed_at l k)
        head_is = ap (λ (x : ℕ). head_text x o b) (sym kind) ∙ ap (head_text k o) enclosed

        pub head_room : Room pen (head_text (kind_of_node node) o b)
        head_room = room_same (sym head_is) (room_first over.text w.room)

        module _ {head : Pen} (h : Put pen (head_text (kind_of_node node) o b) head) {m : Level} (asked : m ≡ first_level k) where
          headed : Coming pen text head (first_text k left xs at ++ over.behind)
          headed = coming_next over.text (all_coming w.room) (put_same (sym head_is) h)

          text_asked : text_there m (left - 1) xs (at + 1) ≡ first_text k left xs at
          text_asked = ap (λ (x : Level). text_there x (left - 1) xs (at + 1)) asked

          pub enter_first : Writable m (left - 1) xs (at + 1) head
          enter_first = record { readable = over.first; room = room_same (sym text_asked) (room_first pieces headed.room) }

          module _ {at₁ : ℕ} {first : Pen} (f : Wrote m (left - 1) xs (at + 1) at₁ head first) where
            first_done : Coming pen text first over.behind
            first_done = coming_next pieces headed (put_same (sym text_asked) f.put)

            module _ (one : has_two k ≡ false) where
              pub end_room : Room first (32 ∷ 101 ∷ 110 ∷ 100 ∷ [])
              end_room = room_same ((over.alone one).0 ∙ end_alone) first_done.room

              pub wrote_one : {end : Pen} → Put first (32 ∷ 101 ∷ 110 ∷ 100 ∷ []) end → Wrote l left xs at at₁ pen end
              wrote_one {end} t = record { passed = f.passed ∙ sym (over.alone one).1; put = first_done.ended end (put_same ((over.alone one).0 ∙ end_alone) t) }

            module _ (two : has_two k ≡ true) where
              abbrev both : Pair l left xs at k over.behind
              both = over.pair two

              pub between_room : Room first (between_text k)
              between_room = room_first both.text first_done.room

              module _ {between : Pen} (j : Put first (between_text k) between) {n : Level} (wanted : n ≡ second_level k) where
                joined : Coming pen text between (second_text k left xs at ++ tail_text k (enclosed_at l k))
                joined = coming_next both.text first_done j

                -- the second child stands where the first ended
                text_wanted : text_there n (left - 1) xs at₁ ≡ second_text k left xs at
                text_wanted = ap (λ (x : Level). text_there x (left - 1) xs at₁) wanted ∙ ap (λ (i : ℕ). text_there (second_level k) (left - 1) xs i) f.passed

                pub enter_second : Writable n (left - 1) xs at₁ between
                enter_second = record {
                  readable = subst (λ (i : ℕ). Readable (left - 1) xs i) (sym f.passed) both.second;
                  room = room_same (sym text_wanted) (room_first pieces joined.room);
                }

                module _ {at₂ : ℕ} {second : Pen} (g : Wrote n (left - 1) xs at₁ at₂ between second) where
                  second_done : Coming pen text second (tail_text k (enclosed_at l k))
                  second_done = coming_next pieces joined (put_same (sym text_wanted) g.put)

                  pub tail_room : Room second (tail_text k b)
                  tail_room = room_same (ap (tail_text k) (sym enclosed)) second_done.room

                  pub wrote_two : {end : Pen} → Put second (tail_text k b) end → Wrote l left xs at at₂ pen end
                  wrote_two {end} t = record {
                    passed = g.passed ∙ ap (λ (i : ℕ). (statement_at (left - 1) xs i).next) f.passed ∙ sym both.next;
                    put = second_done.ended end (put_same (ap (tail_text k) (sym enclosed)) t);
                  }
