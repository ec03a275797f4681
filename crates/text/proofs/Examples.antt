-- The worked examples of order 2 that are about statements, computed.
use Prim.Native.Nat.{ℕ, zero, suc}
use Prim.Native.Char.{code}
use Prim.Native.String.{String}
use Prim.Native.String as string
use mathlib.Core.Path.{◌≡◌, refl}
use mathlib.Core.Option.{Option, none, some}
use mathlib.Core.List.{List, [], ◌∷◌, ◌++◌, map}
use Rattle.esterel.specs.Statement.{Statement, nothing, pause, gotopause, emit, exit, signal, present, sequence, parallel, loop, try}
use Rattle.text.specs.Parts.{Part, word, number, signal_of, pause_at, semicolon, bars, opening, closing, Nothing, Gotopause, Emit, Exit, Signal, In, End, Present, Then, Else, Loop, Try}
use Rattle.table.specs.Reading.{Table}
use Rattle.text.specs.Spelling.{letters_of, digits_within, digits, colon_pause, spelling}
use Rattle.text.specs.Writing.{level_of, enclosed, as_single, as_chain, parts_of, spell_all, write_text}
use Rattle.text.specs.Reading.{label_ranged, signal_ranged, ranged, table_for, table_in}
use Rattle.text.specs.inner.Machine.{joined, beside, meet, push, opened, ended, in_before, then_before, else_before, bare, signal_before, present_before}
use Rattle.text.specs.inner.Machine.{step_due, step_numbered, step_named, step_met, step_heading, step_headed, step, run, closed, outcome, read_within, read_parts}
use Rattle.text.specs.inner.Lexer.{is_digit, is_letter, same, find_word, words, scan, digit_first, numeral, as_signal, part_of, class_of, found, flushed, keep_letter, add_part, add_bar, add_blank, take, lex, all_of, finished, rest, parts_in, read_some, read_text}

bytes : String → List ℕ
bytes string.[] = []
bytes (string.◌∷◌ c s) = code c ∷ bytes s

-- ---- The letters of Spelling

spelled : List (Part × String)
spelled =
    (word Nothing, "nothing") ∷ (word Gotopause, "gotopause") ∷ (word Emit, "emit") ∷ (word Exit, "exit") ∷ (word Signal, "signal") ∷ (word In, "in")
    ∷ (word End, "end") ∷ (word Present, "present") ∷ (word Then, "then") ∷ (word Else, "else") ∷ (word Loop, "loop") ∷ (word Try, "try")
    ∷ (number 1024, "1024") ∷ (signal_of 31, "S31") ∷ (pause_at 0, "0:pause")
    ∷ (semicolon, ";") ∷ (bars, "||") ∷ (opening, "[") ∷ (closing, "]") ∷ []

letters_spelled : map (λ e. spelling e.0) spelled ≡ map (λ e. bytes e.1) spelled
unfolding spelled bytes spelling letters_of digits digits_within colon_pause
letters_spelled = refl

blanks_spelled : bytes " \n" ≡ 32 ∷ 10 ∷ []
unfolding bytes
blanks_spelled = refl

-- ---- Reading

texts : List (String × Option Statement)
texts =
    ("1:pause;2:pause||3:pause", some (parallel (sequence (pause 1) (pause 2)) (pause 3)))
    ∷ ("[nothing||nothing];nothing", some (sequence (parallel nothing nothing) nothing))
    ∷ ("loop[nothing]end", some (loop nothing))
    ∷ ("present S1 end", some (present 1 nothing nothing))
    ∷ ("present S1 else emit S2 end", some (present 1 nothing (emit 2)))
    ∷ ("present S1 then exit 3\n \nend", some (present 1 (exit 3) nothing))
    ∷ ("signal S0 in gotopause 7;try nothing end end", some (signal 0 (sequence (gotopause 7) (try nothing))))
    ∷ ("present S1 then end", none)
    ∷ ("", none)
    ∷ (" nothing", none)
    ∷ ("nothing\n", none)
    ∷ ("emit S 1", none)
    ∷ ("1 :pause", none)
    ∷ ("pause", none)
    ∷ ("emit S01", none)
    ∷ ("00:pause", none)
    ∷ ("exit1", none)
    ∷ ("signal S1in nothing end", none)
    ∷ ("loop 1:pauseend", none)
    ∷ ("nothing;\tnothing", none)
    ∷ ("nothing| |nothing", none)
    ∷ ("exit 1 ; emit S01", none)
    ∷ []

texts_read : map (λ e. read_text (bytes e.0)) texts ≡ map (λ e. e.1) texts
unfolding texts bytes read_text read_some read_parts read_within outcome closed run step step_due step_numbered step_named step_met step_heading step_headed
    meet push opened ended in_before then_before else_before bare signal_before present_before joined beside rest parts_in finished all_of lex take
    class_of is_letter is_digit flushed found keep_letter add_part add_bar add_blank part_of numeral scan digit_first as_signal find_word words same letters_of colon_pause
texts_read = refl

-- ---- Numbers out of range

unranged : List String
unranged =
    "emit S32" ∷ "0:pause" ∷ "64:pause" ∷ "gotopause 0" ∷ "exit 0" ∷ "exit 1234567890123456789012345678901234567890"
    ∷ "loop 1:pause end;emit S99" ∷ []

unranged_refused : map (λ s. table_in (bytes s)) unranged ≡ map (λ s. Table.refused 19) unranged
unfolding unranged table_in table_for ranged label_ranged signal_ranged bytes read_text read_some read_parts read_within outcome closed run step step_due step_numbered step_named
    step_met step_heading step_headed meet push opened ended in_before then_before else_before bare signal_before present_before joined beside rest parts_in finished all_of lex take
    class_of is_letter is_digit flushed found keep_letter add_part add_bar add_blank part_of numeral scan digit_first as_signal find_word words same letters_of colon_pause
unranged_refused = refl

-- ---- Depth

within : ℕ → Part → List Part → Part → List Part
within zero t ts u = ts
within (suc n) t ts u = t ∷ (within n t ts u ++ (u ∷ []))

loops : ℕ → List Part → List Part
loops n ts = within n (word Loop) ts (word End)

nested : ℕ → Statement → Statement
nested zero p = p
nested (suc n) p = loop (nested n p)

deep_read : map read_parts (
    within 60 opening (word Nothing ∷ []) closing ∷ within 61 opening (word Nothing ∷ []) closing
    ∷ loops 60 (word Nothing ∷ []) ∷ loops 61 (word Nothing ∷ []) ∷ loops 60 (word Present ∷ signal_of 1 ∷ word End ∷ []) ∷ [])
    ≡ some nothing ∷ none ∷ some (nested 60 nothing) ∷ none ∷ none ∷ []
unfolding within loops nested read_parts read_within outcome closed run step step_due step_numbered step_named step_met step_heading step_headed
    meet push opened ended in_before then_before else_before bare signal_before present_before joined beside
deep_read = refl

-- ---- Writing

written : List (Statement × String)
written =
    (sequence (parallel nothing nothing) nothing, "[ nothing || nothing ] ; nothing")
    ∷ (loop nothing, "loop nothing end")
    ∷ (present 1 nothing nothing, "present S1 then nothing else nothing end")
    ∷ (
      sequence (sequence (pause 1) (pause 63)) (sequence nothing (parallel nothing (parallel nothing nothing))),
      "[ 1:pause ; 63:pause ] ; nothing ; [ nothing || nothing || nothing ]",
    )
    ∷ (parallel (parallel (exit 10) nothing) (sequence nothing nothing), "[ exit 10 || nothing ] || nothing ; nothing")
    ∷ []

texts_written : map (λ e. write_text e.0) written ≡ map (λ e. bytes e.1) written
unfolding written bytes write_text spell_all spelling letters_of digits digits_within colon_pause parts_of level_of as_single as_chain enclosed
texts_written = refl
