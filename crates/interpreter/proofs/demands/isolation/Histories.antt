-- Alike histories leave alike boxes and tell alike: while a line is under way nothing runs, the bytes only wait, and the registers go by the
-- other events, which are the same in both; at its newline alike units do alike (isolation/Units). By induction over the lines. In
-- other pieces the same units run.
use mathlib.Core.Path.{◌≡◌, refl, sym, ◌∙◌, ap, ap₂, subst}
use mathlib.Core.Bool.{Bool, true, false, not, false≢true}
use mathlib.Core.List.{List, [], ◌∷◌, ◌++◌, append-nil, append_assoc}
use Prim.Native.Nat.{ℕ}
use lib.Dec.{leb, ltb, eqb}
use lib.ListN.{length}
use borrow.Author.Tests.{not-true}
use Rattle.registers.specs.Text.{Text, if◌then◌otherwise◌, every, empty}
use Rattle.registers.specs.Group.{widest_group}
use Rattle.registers.specs.Settings.{value_at}
use Rattle.registers.specs.Status.{Registers, set_reported}
use Rattle.registers.specs.declared.settings.Settings.{Settings}
use Rattle.registers.specs.declared.status.RegisterSet.{RegisterSet}
use Rattle.registers.proofs.Tests.{and_both}
use Rattle.interpreter.specs.Box.{Memory, altered_in, with_memory, Core, Box, box, power_up, most_line}
use Rattle.interpreter.specs.Line.{end_line, held, byte, piece}
use Rattle.interpreter.specs.Events.{Event, started, received, take, condition, look, altered, mislent, Happened, taken, reported, happens, after}
use Rattle.interpreter.specs.Histories.{newline, sent}
use Rattle.interpreter.specs.Demand3.{in_line, Fresh}
use Rattle.interpreter.specs.Steps.{Step, powers_up, discards, finds_none, own_steps, end_steps, byte_steps, piece_steps, event_steps, steps}
use Rattle.interpreter.specs.Isolation.{LinesAlike, besides, During, Alike, unended, powered, ended, calm, Calm, given, answers, Isolation}
use Rattle.interpreter.proofs.Choices.{if-elim, if₂}
use Rattle.interpreter.proofs.demands.histories.Pieces.{after-append, recut-state}
use Rattle.interpreter.proofs.demands.refused.LineBegins.{newline-fresh, lines-begin}
use Rattle.interpreter.proofs.demands.Steps.{steps-append, newline-steps, started-steps, recut-steps}
use Rattle.interpreter.proofs.demands.isolation.Units.{Close, not-overlong, newline-done}

-- ---- a byte that is no newline

byte-plain : (b : Box) (x : ℕ) → eqb x 10 ≡ false → byte b x ≡ box (held x b.core) b.trouble
unfolding byte if◌then◌otherwise◌
byte-plain b x q = rw q

steps-plain : (b : Box) (x : ℕ) → eqb x 10 ≡ false → byte_steps b x ≡ []
unfolding byte_steps if◌then◌otherwise◌
steps-plain b x q = rw q

record Held (x : ℕ) (c d : Core) : Type 0 where
  settings : d.settings ≡ c.settings
  registers : d.registers ≡ c.registers
  line : d.overlong ≡ false → (d.line ≡ c.line ++ x ∷ []) × (c.overlong ≡ false)

held-is : (x : ℕ) (c : Core) → Held x c (held x c)
unfolding held
held-is x c =
    if-elim (λ (d : Core). Held x c d) (ltb (length c.line) most_line) (λ _. record { settings = refl; registers = refl; line = λ o. (refl, o) })
    (λ _. record { settings = refl; registers = refl; line = λ o. absurd (false≢true (sym o)) })

-- ---- what happens while a line is under way

abbrev plain : ℕ → Bool
plain x = not (eqb x 10)

record PieceWaits (b : Box) (xs : Text) (c : Box) : Type 0 where
  settings : c.core.settings ≡ b.core.settings
  registers : c.core.registers ≡ b.core.registers
  silent : piece_steps b xs ≡ []
  line : c.core.overlong ≡ false → (c.core.line ≡ b.core.line ++ xs) × (b.core.overlong ≡ false)

piece-waits : (b : Box) (xs : Text) → every plain xs ≡ true → PieceWaits b xs (piece b xs)
unfolding piece piece_steps
piece-waits b [] e = record { settings = refl; registers = refl; silent = refl; line = λ o. (sym (append-nil b.core.line), o) }
piece-waits b (x ∷ xs) e =
    let p = and_both (plain x) (every plain xs) e in
    let q = not-true (eqb x 10) p.0 in
    let one = held-is x b.core in
    let c = box (held x b.core) b.trouble in
    let r = piece-waits c xs p.1 in
    rw (byte-plain b x q) (record {
      settings = r.settings ∙ one.settings;
      registers = r.registers ∙ one.registers;
      silent = rw (steps-plain b x q, byte-plain b x q) r.silent;
      line = λ o.
          let l = r.line o in
          let m = one.line l.1 in
          (l.0 ∙ ap (λ (t : Text). t ++ xs) m.0 ∙ append_assoc b.core.line (x ∷ []) xs, m.1);
    })

-- the registers go by the conditions reported
unfoldable reports : List Event → Registers → Registers
reports [] r = r
reports (started ∷ es) r = reports es r
reports (received xs ∷ es) r = reports es r
reports (take buffer ∷ es) r = reports es r
reports (condition x n ∷ es) r = reports es (if leb n widest_group then set_reported x n r otherwise r)
reports (look ∷ es) r = reports es r
reports (altered i x ∷ es) r = reports es r
reports (mislent buffer ∷ es) r = reports es r

record Waits (b : Box) (es : List Event) (c : Box) : Type 0 where
  settings : c.core.settings ≡ b.core.settings
  registers : c.core.registers ≡ reports (besides es) b.core.registers
  silent : answers (steps b es) ≡ []
  line : c.core.overlong ≡ false → (c.core.line ≡ b.core.line ++ sent es) × (b.core.overlong ≡ false)

-- an event that is no piece
record Leaves (b : Box) (r : Registers) (c : Box) : Type 0 where
  settings : c.core.settings ≡ b.core.settings
  registers : c.core.registers ≡ r
  line : c.core.line ≡ b.core.line
  overlong : c.core.overlong ≡ b.core.overlong

taken-leaves : (buffer : Text) (b : Box) → Leaves b b.core.registers (taken buffer b).box
unfolding taken
taken-leaves buffer b =
    let all : (h : Happened) → Type 0 = λ h. Leaves b b.core.registers h.box in
    if-elim all (empty b.core.answer) (λ _. record { settings = refl; registers = refl; line = refl; overlong = refl })
    (λ _. if-elim all (leb (length b.core.answer) (length buffer)) (λ _. record { settings = refl; registers = refl; line = refl; overlong = refl })
    (λ _. record { settings = refl; registers = refl; line = refl; overlong = refl }))

reported-leaves : (x : RegisterSet) (n : ℕ) (b : Box)
    → Leaves b (if leb n widest_group then set_reported x n b.core.registers otherwise b.core.registers) (reported x n b).box
unfolding reported
reported-leaves x n b =
    if₂ (λ (h : Happened) (r : Registers). Leaves b r h.box) (leb n widest_group) (record { settings = refl; registers = refl; line = refl; overlong = refl })
    (record { settings = refl; registers = refl; line = refl; overlong = refl })

-- a take tells nothing, with an answer or without
take-silent : (b : Box) (ss : List Step) → answers ((if empty b.core.answer then finds_none b ∷ [] otherwise []) ++ ss) ≡ answers ss
unfolding answers given
take-silent b ss = if-elim (λ (l : List Step). answers (l ++ ss) ≡ answers ss) (empty b.core.answer) (λ _. refl) (λ _. refl)

waits : (b : Box) (es : List Event) → every in_line es ≡ true → Waits b es (after b es)
unfolding after steps event_steps happens in_line besides sent reports answers if◌then◌otherwise◌
waits b [] e = record { settings = refl; registers = refl; silent = refl; line = λ o. (sym (append-nil b.core.line), o) }
waits b (started ∷ es) e = absurd (false≢true e)
waits b (received xs ∷ es) e =
    let p = and_both (every plain xs) _ e in
    let q = piece-waits b xs p.0 in
    let r = waits (piece b xs) es p.1 in
    record {
      settings = r.settings ∙ q.settings;
      registers = r.registers ∙ ap (reports (besides es)) q.registers;
      silent = rw q.silent r.silent;
      line = λ o.
          let l = r.line o in
          let m = q.line l.1 in
          (l.0 ∙ ap (λ (t : Text). t ++ sent es) m.0 ∙ append_assoc b.core.line xs (sent es), m.1);
    }
waits b (take buffer ∷ es) e =
    let q = taken-leaves buffer b in
    let r = waits (taken buffer b).box es e in
    record {
      settings = r.settings ∙ q.settings;
      registers = r.registers ∙ ap (reports (besides es)) q.registers;
      silent = take-silent b (steps (taken buffer b).box es) ∙ r.silent;
      line = λ o. let l = r.line o in (l.0 ∙ ap (λ (t : Text). t ++ sent es) q.line, sym q.overlong ∙ l.1);
    }
waits b (condition x n ∷ es) e =
    let q = reported-leaves x n b in
    let r = waits (reported x n b).box es e in
    record {
      settings = r.settings ∙ q.settings;
      registers = r.registers ∙ ap (reports (besides es)) q.registers;
      silent = r.silent;
      line = λ o. let l = r.line o in (l.0 ∙ ap (λ (t : Text). t ++ sent es) q.line, sym q.overlong ∙ l.1);
    }
waits b (look ∷ es) e =
    let r = waits b es e in
    record { settings = r.settings; registers = r.registers; silent = r.silent; line = r.line }
waits b (altered i x ∷ es) e =
    let r = waits (box (with_memory (altered_in i x b.core.memory) b.core) b.trouble) es e in
    record { settings = r.settings; registers = r.registers; silent = r.silent; line = r.line }
waits b (mislent buffer ∷ es) e =
    let r = waits b es e in
    record { settings = r.settings; registers = r.registers; silent = r.silent; line = r.line }

during-close : (d e : List Event) → During d e → (b c : Box) → Close b c → Close (after b d) (after c e)
during-close d e w b c h =
    let p = waits b d w.first in
    let q = waits c e w.second in
    record {
      agree = record {
        settings = λ i f. ap (λ (s : Settings). value_at s i) p.settings ∙ h.agree.settings i f ∙ sym (ap (λ (s : Settings). value_at s i) q.settings);
        text = ap (λ (s : Settings). s.text) p.settings ∙ h.agree.text ∙ sym (ap (λ (s : Settings). s.text) q.settings);
        registers = p.registers ∙ ap₂ reports w.others h.agree.registers ∙ sym q.registers;
      };
      long = ap (λ (s : Settings). length s.values) p.settings ∙ h.long ∙ sym (ap (λ (s : Settings). length s.values) q.settings);
    }

-- ---- what is told, part by part

newline-then : (b : Box) (h : List Event) → after b (newline ∷ h) ≡ after (end_line b) h
unfolding after happens piece byte if◌then◌otherwise◌
newline-then b h = refl

started-then : (b : Box) (h : List Event) → after b (started ∷ h) ≡ after (power_up b.core.memory) h
unfolding after happens
started-then b h = refl

answers-append : (xs ys : List Step) → answers (xs ++ ys) ≡ answers xs ++ answers ys
unfolding answers
answers-append [] ys = refl
answers-append (x ∷ xs) ys =
    ap (λ (l : List Text). given x ++ l) (answers-append xs ys) ∙ sym (append_assoc (given x) (answers xs) (answers ys))

calm-parts : (xs ys : List Step) → Calm (xs ++ ys) → Calm xs × Calm ys
calm-parts [] ys k = (refl, k)
calm-parts (x ∷ xs) ys k =
    let p = and_both (calm x) (every calm (xs ++ ys)) k in
    let q = calm-parts xs ys p.1 in
    (rw p.0 q.0, q.1)

-- ---- histories, line by line

record Told (h g : List Event) (b c : Box) : Type 0 where
  near : Close (after b h) (after c g)
  told : answers (steps b h) ≡ answers (steps c g)

close-start : (m m' : Memory) → Close (power_up m) (power_up m')
unfolding power_up
close-start m m' = record { agree = record { settings = λ i f. refl; text = refl; registers = refl }; long = refl }

-- of some steps those are calm, and tell all
record Tells (all some : List Step) : Type 0 where
  calms : Calm all → Calm some
  same : answers all ≡ answers some

-- what comes behind steps that tell nothing
behind : (all silent some : List Step) → all ≡ silent ++ some → answers silent ≡ [] → Tells all some
behind all silent some is none =
    record {
      calms = λ k. (calm-parts silent some (subst (λ (s : List Step). Calm s) is k)).1;
      same = ap answers is ∙ answers-append silent some ∙ ap (λ (l : List Text). l ++ answers some) none;
    }

-- a history whose first line is under way
led-tells : (b : Box) (d h : List Event) → every in_line d ≡ true → Tells (steps b (d ++ h)) (steps (after b d) h)
led-tells b d h e = behind _ (steps b d) _ (steps-append b d h) (waits b d e).silent

started-tells : (b : Box) (h : List Event) → Tells (steps b (started ∷ h)) (steps (power_up b.core.memory) h)
unfolding answers given
started-tells b h = behind _ (powers_up b ∷ []) _ (started-steps b h) refl

-- at a newline the line tells what it does, whether or not an answer was discarded
end-tells : (b : Box) → Tells (end_steps b) (own_steps b)
unfolding end_steps answers given
end-tells b =
    behind _ (if empty b.core.answer then [] otherwise discards b ∷ []) _ refl
    (if-elim (λ (l : List Step). answers l ≡ []) (empty b.core.answer) (λ _. refl) (λ _. refl))

record NewlineTells (b : Box) (h : List Event) : Type 0 where
  calms : Calm (steps b (newline ∷ h)) → Calm (own_steps b) × Calm (steps (end_line b) h)
  same : answers (steps b (newline ∷ h)) ≡ answers (own_steps b) ++ answers (steps (end_line b) h)

newline-tells : (b : Box) (h : List Event) → NewlineTells b h
newline-tells b h =
    let is = newline-steps b h in
    let end = end-tells b in
    record {
      calms = λ k.
          let p = calm-parts (end_steps b) (steps (end_line b) h) (subst (λ (s : List Step). Calm s) is k) in
          (end.calms p.0, p.1);
      same = ap answers is ∙ answers-append (end_steps b) (steps (end_line b) h) ∙ ap (λ (l : List Text). l ++ answers (steps (end_line b) h)) end.same;
    }

-- the line that has come by its newline
line-come : (b : Box) → Fresh b.core → (d : List Event) → every in_line d ≡ true → (after b d).core.overlong ≡ false → (after b d).core.line ≡ sent d
line-come b f d e o = ((waits b d e).line o).0 ∙ ap (λ (t : Text). t ++ sent d) f.0

history-told : (h g : List Event) → Alike h g → (b c : Box) → Close b c → Fresh b.core → Fresh c.core
    → Calm (steps b h) → Calm (steps c g) → Told h g b c
history-told h g (unended w) b c x f f' k l =
    record { near = during-close h g w b c x; told = (waits b h w.first).silent ∙ sym (waits c g w.second).silent }
history-told _ _ (powered {d = d} {e = e} {h = h} {g = g} w more) b c x f f' k l =
    let p = led-tells b d (started ∷ h) w.first in
    let q = led-tells c e (started ∷ g) w.second in
    let p' = started-tells (after b d) h in
    let q' = started-tells (after c e) g in
    let m = (after b d).core.memory in
    let n = (after c e).core.memory in
    let r = history-told h g more (power_up m) (power_up n) (close-start m n) (lines-begin m).0 (lines-begin n).0 (p'.calms (p.calms k)) (q'.calms (q.calms l)) in
    record {
      near = rw (after-append b d (started ∷ h), after-append c e (started ∷ g), started-then (after b d) h, started-then (after c e) g) r.near;
      told = p.same ∙ p'.same ∙ r.told ∙ sym (q.same ∙ q'.same);
    }
history-told _ _ (ended {d = d} {e = e} {h = h} {g = g} w a more) b c x f f' k l =
    let b' = after b d in
    let c' = after c e in
    let p = led-tells b d (newline ∷ h) w.first in
    let q = led-tells c e (newline ∷ g) w.second in
    let p' = newline-tells b' h in
    let q' = newline-tells c' g in
    let kk = p'.calms (p.calms k) in
    let ll = q'.calms (q.calms l) in
    let one = line-come b f d w.first (not-overlong b' kk.0) in
    let other = line-come c f' e w.second (not-overlong c' ll.0) in
    let lines : LinesAlike b'.core.line c'.core.line = rw (one, other) a in
    let n = newline-done b' c' (during-close d e w b c x) lines kk.0 ll.0 in
    let r = history-told h g more (end_line b') (end_line c') n.0 (newline-fresh b') (newline-fresh c') kk.1 ll.1 in
    record {
      near = rw (after-append b d (newline ∷ h), after-append c e (newline ∷ g), newline-then b' h, newline-then c' g) r.near;
      told = p.same ∙ p'.same ∙ ap₂ (λ (s t : List Text). s ++ t) n.1 r.told ∙ sym (q.same ∙ q'.same);
    }

-- ---- the law, in any pieces

pub isolation : Isolation
isolation m m' g g' h h' a r r' k k' =
    let p = recut-steps (power_up m) h g r in
    let q = recut-steps (power_up m') h' g' r' in
    let t = history-told g g' a (power_up m) (power_up m') (close-start m m') (lines-begin m).0 (lines-begin m').0
    (subst (λ (s : List Step). Calm s) p k) (subst (λ (s : List Step). Calm s) q k') in
    record {
      left = rw (recut-state (power_up m) h g r, recut-state (power_up m') h' g' r') t.near.agree;
      told = ap answers p ∙ t.told ∙ sym (ap answers q);
    }
