-- `pattern::form::head_at`: each way out is one way through `head_of`. Assumes nothing.
use Rattle.laws.proofs.Prelude.{refl, ◌≡◌, eq-eqb, ne_eqb, lt-ltb, le-ltb, arith, slice}
use Rattle.pattern.specs.Read.{inner_length}
use Rattle.pattern.proofs.Heads.{short_leg, a_leg, bad_tag, short_repeat, no_rounds, many_rounds, too_long, a_repeat, all_left, first_byte, byte}
use Rattle.pattern.proofs.form.head_at.Goals as goal
use Rattle.pattern.proofs.form.head_at.Goals.{then-tag-ne1-via-then-tag-ne1, then-tag-ne1-via-else-tag-ne1+then-left-lt4}
use Rattle.pattern.proofs.form.head_at.Goals.{then-times-eq0-via-then-times-eq0, then-times-eq0-via-else-times-eq0+then-times-gt9, then-times-eq0-via-else-times-eq0+else-times-gt9+then-left-inner}

pub returns-then-left-lt-LEG_ITEM_BYTES : goal.returns-then-left-lt-LEG_ITEM_BYTES
returns-then-left-lt-LEG_ITEM_BYTES c =
    let p = c.requires in
    short_leg _ (all_left _ p) (first_byte _ p refl) (eq-eqb _ _ c.if-tag-eq0.true) (lt-ltb _ _ c.if-left-lt-LEG_ITEM_BYTES.true)

pub returns-else-left-lt-LEG_ITEM_BYTES : goal.returns-else-left-lt-LEG_ITEM_BYTES
returns-else-left-lt-LEG_ITEM_BYTES c =
    let p = c.requires in
    a_leg _ (all_left _ p) (first_byte _ p refl) (eq-eqb _ _ c.if-tag-eq0.true) (le-ltb _ _ c.if-left-lt-LEG_ITEM_BYTES.false)

pub returns-then-tag-ne1 : goal.returns-then-tag-ne1
returns-then-tag-ne1 c =
    let p = c.requires in let tag = ne_eqb _ _ c.if-tag-eq0.false in
    elim c.then-tag-ne1.branch [
      | then-tag-ne1-via-then-tag-ne1 w ↦ bad_tag _ (all_left _ p) (first_byte _ p refl) tag (ne_eqb _ _ w.if-tag-ne1.true)
      | then-tag-ne1-via-else-tag-ne1+then-left-lt4 w ↦ short_repeat _ (all_left _ p) (first_byte _ p refl) tag (eq-eqb _ _ w.if-tag-ne1.false) (lt-ltb _ _ w.if-left-lt4.true)
    ]

pub returns-then-times-eq0 : goal.returns-then-times-eq0
returns-then-times-eq0 c =
    let p = c.requires in let tag = ne_eqb _ _ c.if-tag-eq0.false in let one = eq-eqb _ _ c.if-tag-ne1.false in let long = le-ltb _ _ c.if-left-lt4.false in
    let times = byte _ p 1 (omega arith) c.from-times.ensures in
    let len : c.from-inner.result ≡ inner_length (slice c.args.at c.args.end c.args.b.now) =
    omega (arith, byte _ p 2 (omega arith) refl, byte _ p 3 (omega arith) refl, c.from-inner.ensures, c.from_le_bytes.ensures) in
    elim c.then-times-eq0.branch [
      | then-times-eq0-via-then-times-eq0 w ↦ no_rounds _ (all_left _ p) (first_byte _ p refl) tag one long times (eq-eqb _ _ w.if-times-eq0.true)
      | then-times-eq0-via-else-times-eq0+then-times-gt9 w ↦ many_rounds _ (all_left _ p) (first_byte _ p refl) tag one long times (ne_eqb _ _ w.if-times-eq0.false) (lt-ltb _ _ w.if-times-gt9.true)
      | then-times-eq0-via-else-times-eq0+else-times-gt9+then-left-inner w ↦
          too_long _ (all_left _ p) (first_byte _ p refl) tag one long times (ne_eqb _ _ w.if-times-eq0.false) (le-ltb _ _ w.if-times-gt9.false) len (lt-ltb _ _ w.if-left-inner.true)
    ]

pub returns : goal.returns
returns c =
    let p = c.requires in
    let len : c.from-inner.result ≡ inner_length (slice c.args.at c.args.end c.args.b.now) =
    omega (arith, byte _ p 2 (omega arith) refl, byte _ p 3 (omega arith) refl, c.from-inner.ensures, c.from_le_bytes.ensures) in
    a_repeat _ (all_left _ p) (first_byte _ p refl) (ne_eqb _ _ c.if-tag-eq0.false) (eq-eqb _ _ c.if-tag-ne1.false) (le-ltb _ _ c.if-left-lt4.false)
    (byte _ p 1 (omega arith) c.from-times.ensures) (ne_eqb _ _ c.if-times-eq0.false) (le-ltb _ _ c.if-times-gt9.false) len (le-ltb _ _ c.if-left-inner.false)
