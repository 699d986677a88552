use Rattle.laws.proofs.Prelude.{refl}
use Rattle.words.specs.Words.{vec}
use Rattle.route.specs.Form.{vecs_meet}
use Rattle.route.proofs.LegWalks.{met, all_three}
use Rattle.route.proofs.form.vecs_apart.Goals as goal

pub returns : goal.returns
unfolding vecs_meet vec
returns c =
    all_three (λ z. met _ _ _ _ c.word_at.ensures c.word_at-2.ensures refl (c.words_apart.ensures z))
    (λ z. met _ _ _ _ c.word_at-3.ensures c.word_at-4.ensures refl (c.words_apart-2.ensures z))
    (λ z. met _ _ _ _ c.word_at-5.ensures c.word_at-6.ensures refl (c.words_apart-3.ensures z))
