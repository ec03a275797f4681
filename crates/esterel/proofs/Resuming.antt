-- What a resumed state says of a statement: the labels of its pauses and nothing else (the paper's Lemma 1). By induction on the
-- rules: only `resume` and the one-sided rules of a parallel look at the state, and they look at labels of pauses.
use mathlib.Core.Path.{◌≡◌, sym, ◌∙◌}
use mathlib.Core.Logic.{◌↔◌}
use mathlib.Core.Bool.{true}
use Prim.Native.Nat.{ℕ}
use Rattle.sets.specs.Set.{has, ◌union◌, Apart}
use Rattle.sets.proofs.Booleans.{or_left, or_right, clash, not_true}
use Rattle.sets.proofs.Members.{has_union, has_only, apart_union⁻}
use Rattle.esterel.specs.Statement.{Statement, pause, signal, present, sequence, parallel, loop, try, pauses}
use Rattle.esterel.specs.Reactions.{resumed, Derives, Reaction, Reacts}
use Rattle.esterel.specs.Reactions as rule

-- X and Y have the same labels of a
abbrev pub AgreeOn : ℕ → ℕ → ℕ → Type 0
AgreeOn a X Y = (l : ℕ) → has a l ≡ true → has X l ≡ has Y l

pub agree_left : (a b X Y : ℕ) → AgreeOn (a union b) X Y → AgreeOn a X Y
agree_left a b X Y f l h = f l (has_union a b l ∙ or_left _ h)

pub agree_right : (a b X Y : ℕ) → AgreeOn (a union b) X Y → AgreeOn b X Y
agree_right a b X Y f l h = f l (has_union a b l ∙ or_right (has a l) h)

agree_apart : (a X Y : ℕ) → AgreeOn a X Y → Apart X a → Apart Y a
agree_apart a X Y f g l h = not_true (has a l) (λ u. clash u (g l (f l u ∙ h)))

-- ---- States that agree on the labels of pauses
agrees : (p : Statement) (X Y : ℕ) → AgreeOn (pauses p) X Y → {E O k L : ℕ} → Derives p (resumed X) E O k L → Derives p (resumed Y) E O k L
unfolding pauses
agrees (pause l) X Y f (rule.resume h a b c) = rule.resume (sym (f l (has_only l)) ∙ h) a b c
agrees (signal S p) X Y f (rule.signal+ O₁ r h e) = rule.signal+ O₁ (agrees p X Y f r) h e
agrees (signal S p) X Y f (rule.signal- r) = rule.signal- (agrees p X Y f r)
agrees (present S p q) X Y f (rule.present_left r) = rule.present_left (agrees p X Y (agree_left (pauses p) (pauses q) X Y f) r)
agrees (present S p q) X Y f (rule.present_right r) = rule.present_right (agrees q X Y (agree_right (pauses p) (pauses q) X Y f) r)
agrees (sequence p q) X Y f (rule.seq O₁ O₂ a b e) = rule.seq O₁ O₂ (agrees p X Y (agree_left (pauses p) (pauses q) X Y f) a) b e
agrees (sequence p q) X Y f (rule.seq_left r h) = rule.seq_left (agrees p X Y (agree_left (pauses p) (pauses q) X Y f) r) h
agrees (sequence p q) X Y f (rule.seq_right r) = rule.seq_right (agrees q X Y (agree_right (pauses p) (pauses q) X Y f) r)
agrees (parallel p q) X Y f (rule.par_left r h) =
    rule.par_left (agrees p X Y (agree_left (pauses p) (pauses q) X Y f) r) (agree_apart (pauses q) X Y (agree_right (pauses p) (pauses q) X Y f) h)
agrees (parallel p q) X Y f (rule.par_right r h) =
    rule.par_right (agrees q X Y (agree_right (pauses p) (pauses q) X Y f) r) (agree_apart (pauses p) X Y (agree_left (pauses p) (pauses q) X Y f) h)
agrees (parallel p q) X Y f (rule.par O₁ k₁ L₁ O₂ k₂ L₂ a b e g h) =
    rule.par O₁ k₁ L₁ O₂ k₂ L₂ (agrees p X Y (agree_left (pauses p) (pauses q) X Y f) a)
    (agrees q X Y (agree_right (pauses p) (pauses q) X Y f) b) e g h
agrees (loop p) X Y f (rule.no_loop r h) = rule.no_loop (agrees p X Y f r) h
agrees (loop p) X Y f (rule.loop O₁ O₂ a b h e) = rule.loop O₁ O₂ (agrees p X Y f a) b h e
agrees (try p) X Y f (rule.try k₁ r e) = rule.try k₁ (agrees p X Y f r) e
agrees Rattle.esterel.specs.Statement.nothing X Y f {E = E} {O = O} {k = k} {L = L} x'' = elim x'' [ ]
agrees (Rattle.esterel.specs.Statement.gotopause _) X Y f {E = E} {O = O} {k = k} {L = L} x4 = elim x4 [ ]
agrees (Rattle.esterel.specs.Statement.emit _) X Y f {E = E} {O = O} {k = k} {L = L} x5 = elim x5 [ ]
agrees (Rattle.esterel.specs.Statement.exit _) X Y f {E = E} {O = O} {k = k} {L = L} x6 = elim x6 [ ]

pub derives_agree : (p : Statement) (X Y : ℕ) → AgreeOn (pauses p) X Y → {E O k L : ℕ} → Derives p (resumed X) E O k L ↔ Derives p (resumed Y) E O k L
derives_agree p X Y f = (agrees p X Y f, agrees p Y X (λ l h. sym (f l h)))

-- "label bits without a pause, bit 0 among them, are ignored in a state"
pub reacts_agree : (p : Statement) (X Y : ℕ) → AgreeOn (pauses p) X Y → (E : ℕ) (r : Reaction) → Reacts p (resumed X) E r ↔ Reacts p (resumed Y) E r
unfolding Reacts
reacts_agree p X Y f E r = derives_agree p X Y f

-- ---- A state with no label of a pause
pub derives_apart : (p : Statement) (X : ℕ) → Apart X (pauses p) → {E O k L : ℕ} → Derives p (resumed X) E O k L → ⊥
unfolding pauses
derives_apart (pause l) X f (rule.resume h a b c) = clash (has_only l) (f l h)
derives_apart (signal S p) X f (rule.signal+ O₁ r h e) = derives_apart p X f r
derives_apart (signal S p) X f (rule.signal- r) = derives_apart p X f r
derives_apart (present S p q) X f (rule.present_left r) = derives_apart p X (apart_union⁻ X (pauses p) (pauses q) f).0 r
derives_apart (present S p q) X f (rule.present_right r) = derives_apart q X (apart_union⁻ X (pauses p) (pauses q) f).1 r
derives_apart (sequence p q) X f (rule.seq O₁ O₂ a b e) = derives_apart p X (apart_union⁻ X (pauses p) (pauses q) f).0 a
derives_apart (sequence p q) X f (rule.seq_left r h) = derives_apart p X (apart_union⁻ X (pauses p) (pauses q) f).0 r
derives_apart (sequence p q) X f (rule.seq_right r) = derives_apart q X (apart_union⁻ X (pauses p) (pauses q) f).1 r
derives_apart (parallel p q) X f (rule.par_left r h) = derives_apart p X (apart_union⁻ X (pauses p) (pauses q) f).0 r
derives_apart (parallel p q) X f (rule.par_right r h) = derives_apart q X (apart_union⁻ X (pauses p) (pauses q) f).1 r
derives_apart (parallel p q) X f (rule.par O₁ k₁ L₁ O₂ k₂ L₂ a b e g h) = derives_apart p X (apart_union⁻ X (pauses p) (pauses q) f).0 a
derives_apart (loop p) X f (rule.no_loop r h) = derives_apart p X f r
derives_apart (loop p) X f (rule.loop O₁ O₂ a b h e) = derives_apart p X f a
derives_apart (try p) X f (rule.try k₁ r e) = derives_apart p X f r
derives_apart Rattle.esterel.specs.Statement.nothing X f {E = E} {O = O} {k = k} {L = L} x'' = elim x'' [ ]
derives_apart (Rattle.esterel.specs.Statement.gotopause _) X f {E = E} {O = O} {k = k} {L = L} x4 = elim x4 [ ]
derives_apart (Rattle.esterel.specs.Statement.emit _) X f {E = E} {O = O} {k = k} {L = L} x5 = elim x5 [ ]
derives_apart (Rattle.esterel.specs.Statement.exit _) X f {E = E} {O = O} {k = k} {L = L} x6 = elim x6 [ ]
