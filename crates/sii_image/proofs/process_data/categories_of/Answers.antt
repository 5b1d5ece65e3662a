use Rattle.sii_image.proofs.Fits.{read_fits}
use Rattle.sii_image.proofs.process_data.categories_of.Goals as goal

pub returns-clause-few : goal.returns-clause-few
returns-clause-few c = read_fits c.args.words.now c.chain.result c.requires.most c.chain.ensures.grammar
