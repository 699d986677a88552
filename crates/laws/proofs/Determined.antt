-- No second answer: what it is, for a function of any crate, and the law by which each is shown. Assumes nothing.
use mathlib.Core.Path.{◌≡◌, sym, ◌∙◌}
use seplogic.Ra.Ura.{Ura}
use base.Logic.{SProp}
use prog.{Memory.Memory, Routine.Routine}
use types.Logic.{Logic}
use contract.{Lifetimes.Lfts, Monad.{Fun, fact}}
use denote.Triple.{Entry.{Args, Res}, Clauses.{Ended, Lasts, AtExit, at_exit, Clauses}}

module _ (T : Ended) where
  -- what a function of this signature promises, of its arguments, its answer and its arguments as they are seen at exit
  abbrev pub Promise : Type 1
  Promise = (κs : Lfts T.signature.lifetimes) (a : Args T.signature κs) → Res T.signature κs → AtExit T κs → Type 0

  -- "no second answer fits it": of the same arguments, two answers, with the later contents of every lent buffer, that both meet it are the same
  abbrev pub OneAnswer : Promise → Type 0
  OneAnswer promise =
      (κs : Lfts T.signature.lifetimes) (a : Args T.signature κs) (x y : Res T.signature κs) (v w : Lasts T κs a)
      → promise κs a x (at_exit T κs a v)
      → promise κs a y (at_exit T κs a w)
      → (x ≡ y) × (v ≡ w)

  -- Where a promise is written out beside its function, this says that the function's own clause is that promise and nothing else, in any model of the logic.
  abbrev pub Says : ((M : Type 1) (𝓤 : Ura M) → (𝓛 : Logic 𝓤) → (Memory → SProp 𝓤) → (Routine → Fun 𝓤) → Clauses 𝓤 T) → Promise → Type 2
  Says clauses promise =
      (M : Type 1) (𝓤 : Ura M) (𝓛 : Logic 𝓤) (mem : Memory → SProp 𝓤) (run : Routine → Fun 𝓤)
      (κs : Lfts T.signature.lifetimes) (a : Args T.signature κs) (g : (clauses M 𝓤 𝓛 mem run κs a).ghost) (r : Res T.signature κs) (e : AtExit T κs)
      → (clauses M 𝓤 𝓛 mem run κs a).ensures g r e ≡ fact 𝓤 (promise κs a r e)

-- The law: a promise that names its one value has one.
pub no_second : {A : Type 0} {x y z : A} → x ≡ z → y ≡ z → x ≡ y
no_second p q = p ∙ sym q

-- and it is used part by part
pub both : {A B : Type 0} {v w : A × B} → v.0 ≡ w.0 → v.1 ≡ w.1 → v ≡ w
both {v = v} {w = w} p q = rw (p, q)
