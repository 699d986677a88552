-- Steps that the walks by hand over a reader share: it is taken apart into the lent log and the place. The struct is Copy, so what it owns is had twice:
-- one copy is kept whole, and of the other what the log owns goes to a callee on the slice and the number. Assumes nothing.
use Rattle.laws.proofs.Prelude.{◌≡◌, refl, ◌<◌, ◌^◌, [], ◌∷◌, length}
use seplogic.Ra.Ura.{Ura}
use base.{Logic.{SProp, ent, sep}, Fml.{Lft, Share, Fml, ftrue, flft}}
use mir.{Syntax.{named, w64}, Val.{Val, vint}}
use types.{Logic.{Logic, sem}, Kit.{given, learn, ‵, ◌⊛◌, ◌$◌, ◌∵◌, !, qed, move, drop, use1, split, join, fsplit, fjoin, frame, done}}
use contract.Lifetimes.{Lfts}
use denote.{RattleType.{RattleType, owns}, Laws.Is, Plain.uint_Makes, Builtin.{u8, usize}, Signature.named_lft, Slice.{slice_val, ShrSlice}, Steps.{owned, nothing}}
use denote.Struct.{Declared.Declared, Rest.{all_own, field_own, rest, own_open, own_out}, Values.Values}
use denote.Struct.Laws as LL
use Rattle.flight_log.specs.declared.reader.Reader.{Reader}
use Rattle.flight_log.specs.contracts.reader.Reader as T
use Rattle.flight_log.proofs.reader.Reader.TheLaws as T'

-- the struct's type, over a signature's one lifetime
abbrev pub B : Lfts 1 → RattleType
B κs = T.the_row (named_lft 1 0 tt κs)

-- the machine values of the reader, and of the log and the place in it
abbrev pub mach : Reader → Val
mach d = T'.lowered d

abbrev pub log_val : Reader → Val
log_val d = slice_val d.log.ref_ptr (length d.log.now)

abbrev pub Own : Lft → Reader → Fml
Own κ d = (B (κ, tt)).own_val d (mach d ∷ [])

-- what the two own together
abbrev pub Parts : Lft → Reader → Fml
Parts κ d = owns (ShrSlice (named 0) κ u8 ∷ usize ∷ []) (d.log, (d.place, tt)) (log_val d ∷ [], (vint w64 d.place ∷ [], tt))

module _ {M : Type 1} {𝓤 : Ura M} (𝓛 : Logic 𝓤) (κ : Lft) (q : Share) (d : Reader) where
  open 𝓛 use {A}

  abbrev D : Declared
  D = T.the_type (named_lft 1 0 tt (κ, tt))

  abbrev L : LL.Laws D
  L = T'.the_laws (named_lft 1 0 tt (κ, tt))

  abbrev vd : Values D.parts
  vd = (d.log, (d.place, tt))

  -- the lifetime's token, beside something owned
  abbrev pub With : Fml → SProp 𝓤
  With owned = sep 𝓤 (sep 𝓤 (A.lft κ q) (sem 𝓛 ftrue)) (sem 𝓛 owned)

  pub twice : ent 𝓤 (sem 𝓛 (Own κ d)) (sep 𝓤 (sem 𝓛 (Own κ d)) (sem 𝓛 (Own κ d)))
  twice = (LL.copy D (T'.the_copy (named_lft 1 0 tt (κ, tt))) 𝓛).twice d (mach d ∷ [])

  pub apart : d.place < 2 ^ 64 → ent 𝓤 (With (owns (B (κ, tt) ∷ []) (d, tt) (mach d ∷ [], tt))) (sep 𝓤 (With (Parts κ d)) (sem 𝓛 (Own κ d)))
  apart fits =
      qed 𝓛 ((‵ (flft κ q) ⊛ ‵ ftrue) ∷ ‵ (owns (B (κ, tt) ∷ []) (d, tt) (mach d ∷ [], tt)) ∷ []) ∵
      move ! (1 ∷ []) $ fsplit ! $ move ! (1 ∷ []) $ drop ! $ use1 𝓛 (‵ (Own κ d) ⊛ ‵ (Own κ d)) twice $ split ! $
      use1 𝓛 (given (mach d ∷ [] ≡ mach d ∷ []) (‵ (all_own D.parts L vd))) (own_open 𝓛 D L vd (mach d)) $ learn !
      (λ _. use1 𝓛 (‵ (field_own D.parts L 0 d.log) ⊛ ‵ (rest D.parts L 0 vd)) (own_out 𝓛 D.parts L 0 vd) $ split ! $
      -- [what the log owns; what the place owns; what the struct owns; the token]
      move ! (1 ∷ []) $ drop ! $ nothing ! $ owned ! usize (Is usize) (uint_Makes 𝓛 w64) d.place _ (refl, fits) $ fjoin ! $ move ! (1 ∷ 0 ∷ []) $ fjoin ! $
      move ! (2 ∷ 0 ∷ []) $ join ! $ frame ! $ done !)
