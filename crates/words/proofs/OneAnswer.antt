-- Of each public function here: no second answer fits its promise. Assumes nothing.
use Rattle.laws.proofs.Prelude.{refl}
use contract.Lifetimes.{Lfts}
use denote.{Signature.named_lft, Struct.Cover.Cover-one}
use Rattle.laws.proofs.Prelude.{◌≡◌}
use Rattle.laws.proofs.Determined.{OneAnswer, no_second, both}
use Rattle.words.specs.declared.view.Words.{Words}
use Rattle.words.specs.contracts.view.Words as lent
use Rattle.words.specs.contracts as promised
use Rattle.words.proofs.read
use Rattle.words.proofs.view
use Rattle.words.proofs.write

pub four_bytes_once : OneAnswer promised.read.four_bytes.ended read.four_bytes.Reads.Post
four_bytes_once κs a x y v w p q = (no_second p q, refl)

pub word_at_once : OneAnswer promised.read.word_at.ended read.word_at.Reads.Post
word_at_once κs a x y v w p q = (no_second p q, refl)

pub all_plain_once : OneAnswer promised.read.all_plain.ended read.all_plain.Reads.Post
all_plain_once κs a x y v w p q = (no_second p q, refl)

pub float_of_once : OneAnswer promised.read.float_of.ended read.float_of.Reads.Post
float_of_once κs a x y v w p q = (no_second p q, refl)

pub word_once : OneAnswer promised.view.Words.word.ended view.Words.word.Reads.Post
word_once κs a x y v w p q = (no_second p q, refl)

pub float_once : OneAnswer promised.view.Words.float.ended view.Words.float.Reads.Post
float_once κs a x y v w p q = (no_second p q, refl)

pub vec_once : OneAnswer promised.view.Words.vec.ended view.Words.vec.Reads.Post
vec_once κs a x y v w p q = (no_second p q, refl)

pub finite_at_once : OneAnswer promised.read.finite_at.ended read.finite_at.Reads.Post
finite_at_once κs a x y v w p q = (no_second p q, refl)

pub float_at_once : OneAnswer promised.read.float_at.ended read.float_at.Reads.Post
float_at_once κs a x y v w p q = (no_second p q, refl)

pub vec_at_once : OneAnswer promised.read.vec_at.ended read.vec_at.Reads.Post
vec_at_once κs a x y v w p q = (no_second p q, refl)

pub bits_of_once : OneAnswer promised.write.bits_of.ended write.bits_of.Reads.Post
bits_of_once κs a x y v w p q = (no_second p q, refl)

pub put_word_once : OneAnswer promised.write.put_word.ended write.put_word.Reads.Post
put_word_once κs a x y v w p q = (refl, both (no_second p.is q.is) refl)

pub put_flag_once : OneAnswer promised.write.put_flag.ended write.put_flag.Reads.Post
put_flag_once κs a x y v w p q = (refl, both (no_second p.is q.is) refl)

pub put_float_once : OneAnswer promised.write.put_float.ended write.put_float.Reads.Post
put_float_once κs a x y v w p q = (refl, both (no_second p.is q.is) refl)

pub put_three_once : OneAnswer promised.write.put_three.ended write.put_three.Reads.Post
put_three_once κs a x y v w p q = (refl, both (no_second p.is q.is) refl)

pub put_vec_once : OneAnswer promised.write.put_vec.ended write.put_vec.Reads.Post
put_vec_once κs a x y v w p q = (refl, both (no_second p.is q.is) refl)

pub make_canonical_once : OneAnswer promised.write.make_canonical.ended write.make_canonical.Reads.Post
make_canonical_once κs a x y v w p q = (refl, both (no_second p q) refl)

pub put_bytes_once : OneAnswer promised.write.put_bytes.ended write.put_bytes.Reads.Post
put_bytes_once κs a x y v w p q = (refl, both (no_second p q) refl)

-- ---- answers that hold the lent bytes and a fact about them: two of them are the same where the bytes lie at one place and both are plain or neither is

same_words : (κs : Lfts 1) {x y : Words} → x.bytes ≡ y.bytes → x.plain ≡ y.plain → x ≡ y
same_words κs {x} {y} b p = let T = lent.the_type (named_lft 1 0 tt κs) in Cover-one T.cover T.propositions x y (both b (both p refl))

pub new_once : OneAnswer promised.view.Words.new.ended view.Words.new.Reads.Post
new_once κs a x y v w p q = (same_words κs (no_second p.0 q.0) (no_second p.1 q.1), refl)

pub scanned_once : OneAnswer promised.view.Words.scanned.ended view.Words.scanned.Reads.Post
scanned_once κs a x y v w p q = (same_words κs (no_second p.0 q.0) (no_second p.1 q.1), refl)
