pub mod AliasLaws
mod NameLaws
pub mod UnlessLaws
pub mod ShapeLaws
mod CategoryLaws
pub mod ExchangeLaws
pub mod OneEdit
pub mod CommandLaws
mod DraftLaws
mod DraftRuns
mod PlaceLaws
pub mod ProcessImageLaws
mod LayoutLaws
pub mod FoldLaws
mod GroupLaws
pub mod WordLaws
pub mod PlantLaws
